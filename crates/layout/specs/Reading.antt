-- What the decoding functions compute is what the definitions unpack: a word's top field needs no remainder, its last no quotient.
use Rattle.std.specs.Prelude.{◌≡◌, ℕ, ◌/◌, ◌%◌, ◌^◌, ◌<◌, Bool, true, false, List, [], ◌∷◌, refl}
use mir.Val.{bool_byte}
use Rattle.std.proofs.Common.{div-one, arith}
use Rattle.std.proofs.Math.Pow.{shr_mod}
use Rattle.layout.specs.Limits.{word_bits}
use Rattle.layout.specs.Fields.{width, unpack, Packing, decode}
use Rattle.layout.specs.Words.{Decoded, IsBit}
use Rattle.layout.specs.Laws.{Laws}
use Rattle.layout.specs.Bytes.{byte_widths, bytes_of_word, bytes_of}

-- the fields below the top; then all
unfoldable pub lower : List ℕ → ℕ → List ℕ
lower [] w = []
lower (a ∷ []) w = w % 2 ^ a ∷ []
lower (a ∷ b ∷ ws) w = w / 2 ^ width (b ∷ ws) % 2 ^ a ∷ lower (b ∷ ws) w

unfoldable pub read : List ℕ → ℕ → List ℕ
read [] w = []
read (a ∷ ws) w = w / 2 ^ width ws ∷ lower ws w

lower_is : (ws : List ℕ) (w : ℕ) → lower ws w ≡ unpack ws w
unfolding lower unpack width
lower_is [] w = refl
lower_is (a ∷ []) w = rw div-one
lower_is (a ∷ b ∷ ws) w = rw (lower_is (b ∷ ws) w)

read_is : (ws : List ℕ) (w : ℕ) → w < 2 ^ width ws → read ws w ≡ unpack ws w
unfolding read unpack width
read_is [] w h = refl
read_is (a ∷ ws) w h = rw (shr_mod a (width ws) h, lower_is ws w)

pub decoded : {A : Type 0} {p : Packing A} {Fits : A → Type 0} → Laws p Fits → width p.widths ≡ word_bits → (w : ℕ) → w < 2 ^ word_bits
    → Decoded Fits (decode p w) (p.of (read p.widths w))
unfolding decode
decoded {p} l whole w h = rw (read_is p.widths w (rw whole h)) (record { is = refl; fits = l.decoded_fits w })

-- a flag as a number
pub is_bit : (b : Bool) → IsBit b (bool_byte b)
is_bit true = record { is = refl; below = omega arith }
is_bit false = record { is = refl; below = omega arith }

-- a word's bytes are such fields
pub bytes_read : (w : ℕ) → w < 2 ^ word_bits → read (byte_widths bytes_of_word) w ≡ bytes_of w
unfolding bytes_of width
bytes_read w h = read_is (byte_widths bytes_of_word) w h
