-- "Fields are packed most significant bit first, widths in bits."
-- One packing for every word: a list of widths, and a value for each.
use Rattle.std.specs.Prelude.{◌≡◌, ℕ, ◌+◌, ◌*◌, ◌/◌, ◌%◌, ◌^◌, ◌<◌, List, [], ◌∷◌, refl}
use Rattle.std.proofs.Common.{sym, ap₂, ◌∙◌, mod-lt, mod-eq_of_lt, pow_pos, pow-add}
use Rattle.std.proofs.Math.Nat.{mod-mod}
use Rattle.std.proofs.Math.Arith.{digits_lt, lt-one}
use Rattle.std.proofs.Math.Pow.{high, low, field, mod-mod-pow}
use Rattle.std.proofs.lemmas.Nat.{mod-pow-add}

unfoldable pub width : List ℕ → ℕ
width [] = 0
width (w ∷ ws) = w + width ws

-- the word that has these values in fields of these widths
unfoldable pub pack : List ℕ → List ℕ → ℕ
pack [] vs = 0
pack (w ∷ ws) [] = 0
pack (w ∷ ws) (v ∷ vs) = v * 2 ^ width ws + pack ws vs

-- the values that a word has in fields of these widths
unfoldable pub unpack : List ℕ → ℕ → List ℕ
unpack [] x = []
unpack (w ∷ ws) x = x / 2 ^ width ws % 2 ^ w ∷ unpack ws x

-- A packed word that holds an A: its fields' widths, the values of an A in them, and the A that has such values.
pub record Packing (A : Type 0) : Type 0 where
  pub widths : List ℕ
  pub fields : A → List ℕ
  pub of : List ℕ → A

unfoldable pub encode : {A : Type 0} → Packing A → A → ℕ
encode p x = pack p.widths (p.fields x)

unfoldable pub decode : {A : Type 0} → Packing A → ℕ → A
decode p w = p.of (unpack p.widths w)

-- a value for each width, and none too large for its field
unfoldable pub Fit : List ℕ → List ℕ → Type 0
Fit [] [] = Unit {0}
Fit [] (v ∷ vs) = ⊥
Fit (w ∷ ws) [] = ⊥
Fit (w ∷ ws) (v ∷ vs) = (v < 2 ^ w) × Fit ws vs

pub pack_below : (ws vs : List ℕ) → Fit ws vs → pack ws vs < 2 ^ width ws
unfolding width pack Fit
pack_below [] [] h = pow_pos 0
pack_below [] (v ∷ vs) h = absurd h
pack_below (w ∷ ws) [] h = absurd h
pack_below (w ∷ ws) (v ∷ vs) h = rw pow-add (digits_lt h.0 (pack_below ws vs h.1))

pub unpack_fit : (ws : List ℕ) (x : ℕ) → Fit ws (unpack ws x)
unfolding unpack Fit
unpack_fit [] x = tt
unpack_fit (w ∷ ws) x = (mod-lt (x / 2 ^ width ws) (pow_pos w), unpack_fit ws x)

-- unpacked and packed again, a word is what it was
pub pack_unpack : (ws : List ℕ) (x : ℕ) → pack ws (unpack ws x) ≡ x % 2 ^ width ws
unfolding width pack unpack
pack_unpack [] x = sym (lt-one (mod-lt x (pow_pos 0)))
pack_unpack (w ∷ ws) x = rw (mod-pow-add, pack_unpack ws x)

-- only the bits below a list's width count
unpack_low : (ws : List ℕ) (x : ℕ) → unpack ws (x % 2 ^ width ws) ≡ unpack ws x
unfolding width unpack
unpack_low [] x = refl
unpack_low (w ∷ ws) x =
    ap₂ ◌∷◌ (rw (field, mod-mod))
    (sym (unpack_low ws (x % 2 ^ (w + width ws))) ∙ rw mod-mod-pow (unpack_low ws x))

-- packed and unpacked again, the values are what they were
pub unpack_pack : (ws vs : List ℕ) → Fit ws vs → unpack ws (pack ws vs) ≡ vs
unfolding width pack unpack Fit
unpack_pack [] [] h = refl
unpack_pack [] (v ∷ vs) h = absurd h
unpack_pack (w ∷ ws) [] h = absurd h
unpack_pack (w ∷ ws) (v ∷ vs) h =
    let r : pack ws vs < 2 ^ width ws = pack_below ws vs h.1 in
    ap₂ ◌∷◌ (rw (high v (width ws) r) (mod-eq_of_lt h.0))
    (sym (unpack_low ws (v * 2 ^ width ws + pack ws vs)) ∙ rw (low v (width ws) r) (unpack_pack ws vs h.1))
