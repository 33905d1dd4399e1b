-- Bytes read word by word, and a word byte by byte.
use Rattle.std.proofs.Common.{◌≡◌, ℕ, zero, suc, ◌+◌, ◌*◌, ◌/◌, ◌<◌, ◌≤◌, List, [], ◌∷◌, ◌++◌, length, get_or, take, drop, set, sym, refl, ap, ◌∙◌, arith, append-nil, append_assoc, length-append, drop-drop}
use Rattle.std.specs.List.{fold}
use Rattle.std.specs.Simd.{first_chunks}
use Rattle.base.specs.Copied.{Copied, copy_next, copy_end}
use Rattle.base.specs.Listed.{listed}
use Rattle.layout.specs.Fields.{pack}
use Rattle.layout.specs.Bytes.{bytes_of_word, word_of, with_byte, AreBytes, bytes_cons, bytes_append, word_grows}
use Rattle.layout.specs.ByteWords.{word_in, words_of, length_words}

-- bytes put into a word one behind the other, behind those that are in it
put_behind : (before bytes : List ℕ) → AreBytes before → AreBytes bytes → length before + length bytes ≤ bytes_of_word
    → fold with_byte (word_of before) bytes ≡ word_of (before ++ bytes)
put_behind before [] are these few = ap word_of (sym (append-nil before))
put_behind before (b ∷ bs) are these few =
    let one : AreBytes (b ∷ []) = bytes_cons b [] (these 0) (λ i. omega arith) in
    rw (word_grows before b are (omega arith))
    (put_behind (before ++ (b ∷ [])) bs (bytes_append before (b ∷ []) are one) (λ i. these (suc i)) (rw length-append (omega arith))
    ∙ ap word_of (append_assoc before (b ∷ []) bs))

pub word_put : (bytes : List ℕ) → AreBytes bytes → length bytes ≡ bytes_of_word → fold with_byte 0 bytes ≡ word_of bytes
unfolding word_of pack
word_put bytes are long = put_behind [] bytes (λ i. omega arith) are (omega (arith, long))

-- part i of some bytes, in parts of n each
part_at : (n k : ℕ) (bytes : List ℕ) (i : ℕ) (other : List ℕ) → i < k → get_or (first_chunks n k bytes) i other ≡ take n (drop (n * i) bytes)
part_at n zero bytes i other h = absurd (omega arith)
part_at n (suc k) bytes zero other h = let e : n * 0 ≡ 0 = omega arith in rw e refl
part_at n (suc k) bytes (suc i) other h =
    let e : n * suc i ≡ n + n * i = omega arith in
    part_at n k (drop n bytes) i other (omega arith) ∙ rw (drop-drop (n * i) n bytes, e) refl

-- all words
listed_at : (f : ℕ → ℕ) (i n k : ℕ) → k < n → get_or (listed f i n) k 0 ≡ f (i + k)
unfolding listed
listed_at f i zero k h = absurd (omega arith)
listed_at f i (suc n) zero h = let e : i ≡ i + 0 = omega arith in ap f e
listed_at f i (suc n) (suc k) h =
    let e : suc i + k ≡ i + suc k = omega arith in
    listed_at f (suc i) n k (omega arith) ∙ ap f e

module _ (words bytes : List ℕ) (h : length bytes ≡ bytes_of_word * length words) where
  same_words : length words ≡ length (words_of bytes)
  same_words = sym (length_words bytes ∙ omega arith)

  module _ (after : List ℕ) (k : ℕ) (s : Copied (words_of bytes) words after k) where
    pub read_next : k < length words → (w : ℕ) (parts : List (List ℕ)) (other : List ℕ)
        → parts ≡ first_chunks bytes_of_word (length bytes / bytes_of_word) bytes → w ≡ word_of (get_or parts k other)
        → Copied (words_of bytes) words (set after k w) (k + 1)
    unfolding words_of word_in
    read_next g w parts other e x =
        let below : k < length bytes / bytes_of_word = omega (arith, h) in
        let zero_k : 0 + k ≡ k = omega arith in
        let is : w ≡ get_or (words_of bytes) k 0 =
        (rw (e, part_at bytes_of_word (length bytes / bytes_of_word) bytes k other below) at x)
        ∙ sym (listed_at (word_in bytes) 0 (length bytes / bytes_of_word) k below ∙ ap (word_in bytes) zero_k) in
        rw is (copy_next same_words s (rw (← same_words) g))

    pub read_end : length words ≤ k → after ≡ words_of bytes
    read_end g = copy_end same_words s (rw (← same_words) g)
