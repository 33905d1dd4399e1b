-- A word as bytes, "most significant byte first", and the laws of that.
use Rattle.std.specs.Prelude.{◌≡◌, ℕ, zero, suc, ◌+◌, ◌-◌, ◌*◌, ◌/◌, ◌%◌, ◌^◌, ◌<◌, ◌≤◌, List, [], ◌∷◌, ◌++◌, length, take, drop, replicate, slice_index, refl}
use Rattle.std.proofs.Common.{sym, ap, ◌∙◌, arith, mod-lt, mod-eq_of_lt, lt_of_lt_of_le, length-append, pow_pos, pow-add, pow_mono}
use Rattle.layout.specs.Limits.{word_bits}
use Rattle.layout.specs.Fields.{width, pack, unpack, Fit, pack_below, pack_unpack, unpack_pack}

abbrev pub byte_bits : ℕ
byte_bits = 8

abbrev pub bytes_of_word : ℕ
bytes_of_word = 8

-- so many fields of a byte each
abbrev pub byte_widths : ℕ → List ℕ
byte_widths n = replicate n byte_bits

-- the eight bytes of a word
unfoldable pub bytes_of : ℕ → List ℕ
bytes_of word = unpack (byte_widths bytes_of_word) word

-- the word that these are the bytes of
unfoldable pub word_of : List ℕ → ℕ
word_of bytes = pack (byte_widths (length bytes)) bytes

-- the word with one more byte behind its bytes, of which the first drops out
unfoldable pub with_byte : (word byte : ℕ) → ℕ
with_byte word byte = word % 2 ^ (word_bits - byte_bits) * 2 ^ byte_bits + byte

-- ── laws ──

-- A list of bytes.
abbrev pub AreBytes : List ℕ → Type 0
AreBytes bytes = (i : ℕ) → slice_index bytes i < 2 ^ byte_bits

pub bytes_cons : (b : ℕ) (bs : List ℕ) → b < 2 ^ byte_bits → AreBytes bs → AreBytes (b ∷ bs)
bytes_cons b bs h hs zero = h
bytes_cons b bs h hs (suc i) = hs i

pub bytes_append : (xs ys : List ℕ) → AreBytes xs → AreBytes ys → AreBytes (xs ++ ys)
bytes_append [] ys h k = k
bytes_append (x ∷ xs) ys h k = bytes_cons x (xs ++ ys) (h 0) (bytes_append xs ys (λ i. h (suc i)) k)

-- any number unpacked in bytes
pub unpacked_bytes : (n x : ℕ) → AreBytes (unpack (byte_widths n) x)
unfolding unpack
unpacked_bytes zero x = λ i. omega arith
unpacked_bytes (suc n) x =
    let first = x / 2 ^ width (byte_widths n) in
    bytes_cons (first % 2 ^ byte_bits) (unpack (byte_widths n) x) (mod-lt first (pow_pos byte_bits)) (unpacked_bytes n x)

pub bytes_drop : (n : ℕ) (bytes : List ℕ) → AreBytes bytes → AreBytes (drop n bytes)
bytes_drop zero bytes h = h
bytes_drop (suc n) [] h = h
bytes_drop (suc n) (b ∷ bs) h = bytes_drop n bs (λ i. h (suc i))

pub bytes_take : (n : ℕ) (bytes : List ℕ) → AreBytes bytes → AreBytes (take n bytes)
bytes_take zero bytes h i = omega arith
bytes_take (suc n) [] h i = h i
bytes_take (suc n) (b ∷ bs) h zero = h 0
bytes_take (suc n) (b ∷ bs) h (suc i) = bytes_take n bs (λ j. h (suc j)) i

pub bytes_fit : (bytes : List ℕ) → AreBytes bytes → Fit (byte_widths (length bytes)) bytes
unfolding Fit
bytes_fit [] h = tt
bytes_fit (b ∷ bs) h = (h 0, bytes_fit bs (λ i. h (suc i)))

width_bytes : (n : ℕ) → width (byte_widths n) ≡ byte_bits * n
unfolding width
width_bytes zero = refl
width_bytes (suc n) = rw (width_bytes n) (omega arith)

pub word_below : (bytes : List ℕ) → AreBytes bytes → word_of bytes < 2 ^ (byte_bits * length bytes)
unfolding word_of
word_below bytes h = rw (width_bytes (length bytes)) at (pack_below (byte_widths (length bytes)) bytes (bytes_fit bytes h))

-- a word of 64 bits comes back from its bytes, and eight bytes from their word
pub word_of_bytes : (word : ℕ) → word < 2 ^ word_bits → word_of (bytes_of word) ≡ word
unfolding word_of bytes_of unpack width
word_of_bytes word h = pack_unpack (byte_widths bytes_of_word) word ∙ mod-eq_of_lt h

unpack_bytes : (n : ℕ) (bytes : List ℕ) → AreBytes bytes → length bytes ≡ n → unpack (byte_widths n) (pack (byte_widths (length bytes)) bytes) ≡ bytes
unpack_bytes n bytes h e = rw (← e) (unpack_pack (byte_widths (length bytes)) bytes (bytes_fit bytes h))

pub bytes_of_word_holds : (bytes : List ℕ) → AreBytes bytes → length bytes ≡ bytes_of_word → bytes_of (word_of bytes) ≡ bytes
unfolding word_of bytes_of
bytes_of_word_holds bytes h e = unpack_bytes bytes_of_word bytes h e

-- one more byte behind
room_more : (bytes : List ℕ) (b : ℕ) → 2 ^ width (byte_widths (length (bytes ++ (b ∷ [])))) ≡ 2 ^ width (byte_widths (length bytes)) * 2 ^ byte_bits
room_more bytes b =
    let l : length (bytes ++ (b ∷ [])) ≡ length bytes + 1 = length-append bytes (b ∷ []) in
    let w : width (byte_widths (length (bytes ++ (b ∷ [])))) ≡ width (byte_widths (length bytes)) + byte_bits =
    omega (arith, l, width_bytes (length bytes), width_bytes (length (bytes ++ (b ∷ [])))) in
    rw w (pow-add 2 (width (byte_widths (length bytes))) byte_bits)

word_more : (bytes : List ℕ) (b : ℕ) → word_of (bytes ++ (b ∷ [])) ≡ word_of bytes * 2 ^ byte_bits + b
unfolding word_of pack width
word_more [] b = omega arith
word_more (x ∷ bs) b = rw (room_more bs b, word_more bs b) (omega arith)

pub word_grows : (bytes : List ℕ) (b : ℕ) → AreBytes bytes → length bytes < bytes_of_word → with_byte (word_of bytes) b ≡ word_of (bytes ++ (b ∷ []))
unfolding with_byte
word_grows bytes b h few =
    let most : 2 ^ (byte_bits * length bytes) ≤ 2 ^ (word_bits - byte_bits) = pow_mono {j = word_bits - byte_bits} (omega arith) in
    ap (λ (w : ℕ). w * 2 ^ byte_bits + b) (mod-eq_of_lt (lt_of_lt_of_le (word_below bytes h) most)) ∙ sym (word_more bytes b)
