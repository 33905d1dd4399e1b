-- The laws of images: the words come back from their image, and the bytes from their words.
use Rattle.std.specs.Prelude.{ℕ, zero, suc, ◌*◌, ◌^◌, ◌<◌, ◌≡◌, refl, List, [], ◌∷◌, ◌++◌, length, take, drop}
use Rattle.std.proofs.Common.{sym, ap, ap₂, ◌∙◌, arith, length-append, length-drop, take-append-drop, length-take-le}
use Rattle.base.specs.Every.{Every}
use Rattle.base.specs.Listed.{listed}
use Rattle.layout.specs.Limits.{word_bits}
use Rattle.layout.specs.Fields.{unpack}
use Rattle.layout.specs.Bytes.{bytes_of_word, bytes_of, AreBytes, bytes_take, bytes_drop, word_of_bytes, bytes_of_word_holds}
use Rattle.layout.specs.ByteWords.{words_of, words_cons}
use Rattle.image.specs.Image.{image_of}

pub length_bytes : (word : ℕ) → length (bytes_of word) ≡ bytes_of_word
unfolding bytes_of unpack
length_bytes word = refl

pub length_image : (ws : List ℕ) → length (image_of ws) ≡ bytes_of_word * length ws
unfolding image_of
length_image [] = refl
length_image (w ∷ ws) = length-append (bytes_of w) (image_of ws) ∙ rw (length_bytes w, length_image ws) (omega arith)

-- words of 64 bits come back from their image
pub read_back : (ws : List ℕ) → Every (λ w. w < 2 ^ word_bits) ws → words_of (image_of ws) ≡ ws
unfolding image_of words_of listed
read_back [] h = refl
read_back (w ∷ ws) h =
    words_cons (bytes_of w) (image_of ws) (length_bytes w)
    ∙ ap₂ (λ (x : ℕ) (xs : List ℕ). x ∷ xs) (word_of_bytes w h.0) (read_back ws h.1)

-- and so do bytes from their words, if these are whole
pub written_again : (n : ℕ) (image : List ℕ) → AreBytes image → length image ≡ bytes_of_word * n → image_of (words_of image) ≡ image
unfolding image_of words_of listed
written_again zero [] h e = refl
written_again zero (b ∷ bs) h e = absurd (omega arith)
written_again (suc n) image h e =
    let first = take bytes_of_word image in
    let rest = drop bytes_of_word image in
    let l : length first ≡ bytes_of_word = length-take-le bytes_of_word image (omega arith) in
    let m : length rest ≡ bytes_of_word * n = length-drop bytes_of_word image ∙ omega arith in
    let parts : first ++ rest ≡ image = take-append-drop bytes_of_word image in
    ap (λ (bytes : List ℕ). image_of (words_of bytes)) (sym parts) ∙ ap image_of (words_cons first rest l)
    ∙ ap₂ (λ (x y : List ℕ). x ++ y) (bytes_of_word_holds first (bytes_take bytes_of_word image h) l)
    (written_again n rest (bytes_drop bytes_of_word image h) m)
    ∙ parts
