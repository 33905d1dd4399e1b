-- The binary digits of a word: what the operations of the filter's code do to each.
use Rattle.std.specs.Prelude.{ℕ, zero, suc, ◌+◌, ◌-◌, ◌*◌, ◌/◌, ◌%◌, ◌^◌, ◌<◌, ◌≡◌, refl, ◌≢◌, Bool, true, false, ◌&&◌, ◌||◌, leb, eqb}
use Rattle.std.proofs.Common.{sym, ap, ap₂, ◌∙◌, mod-lt, mul-div_cancel, mul-le-mul_right, mul-lt-mul_of_pos_right, add-zero, arith, eqb-true, le-leb, pow_pos, pow-add}
use Rattle.std.proofs.Math.Nat.{mul-mod_left, div_self, div-eq_of_lt, div-eq_of_lt-le}
use Rattle.std.proofs.lemmas.Bool.{eqb-false, lt-leb}
use Rattle.std.specs.Int.Bits.{bit_and, bit_or, and_lt}
use Rattle.std.proofs.lemmas.Nat.{and_shr, and_mod, or_shr, or_mod, mod-pow-add}
use Rattle.std.proofs.Math.Pow.{pow-lt, field}
use Rattle.base.specs.Cases.{below_or_not}
use Rattle.layout.specs.Limits.{word_bits}
use Rattle.undo.specs.Promises.{starts_with_one}

-- digit k, from the least significant on
abbrev pub digit : (word k : ℕ) → Bool
digit word k = eqb (word / 2 ^ k % 2) 1

pub or_digit : (a b k : ℕ) → digit (bit_or a b) k ≡ digit a k || digit b k
or_digit a b k =
    rw (or_shr a b k, or_mod (a / 2 ^ k) (b / 2 ^ k) 1)
    (digits (a / 2 ^ k % 2) (b / 2 ^ k % 2) (mod-lt (a / 2 ^ k) (omega arith)) (mod-lt (b / 2 ^ k) (omega arith)))
  where
    digits : (d e : ℕ) → d < 2 → e < 2 → eqb (bit_or d e) 1 ≡ eqb d 1 || eqb e 1
    digits zero zero h g = refl
    digits zero (suc zero) h g = refl
    digits zero (suc (suc e)) h g = absurd (omega arith)
    digits (suc zero) zero h g = refl
    digits (suc zero) (suc zero) h g = refl
    digits (suc zero) (suc (suc e)) h g = absurd (omega arith)
    digits (suc (suc d)) e h g = absurd (omega arith)

and_digit : (a b k : ℕ) → digit (bit_and a b) k ≡ digit a k && digit b k
and_digit a b k =
    rw (and_shr a b k, and_mod (a / 2 ^ k) (b / 2 ^ k) 1)
    (digits (a / 2 ^ k % 2) (b / 2 ^ k % 2) (mod-lt (a / 2 ^ k) (omega arith)) (mod-lt (b / 2 ^ k) (omega arith)))
  where
    digits : (d e : ℕ) → d < 2 → e < 2 → eqb (bit_and d e) 1 ≡ eqb d 1 && eqb e 1
    digits zero zero h g = refl
    digits zero (suc zero) h g = refl
    digits zero (suc (suc e)) h g = absurd (omega arith)
    digits (suc zero) zero h g = refl
    digits (suc zero) (suc zero) h g = refl
    digits (suc zero) (suc (suc e)) h g = absurd (omega arith)
    digits (suc (suc d)) e h g = absurd (omega arith)

-- 2 ^ j has the one digit j
pub power_digit : (j k : ℕ) → digit (2 ^ j) k ≡ eqb j k
power_digit j k = go (eqb j k) refl
  where
    above : (d : ℕ) → 2 ^ (d + 1 + k) / 2 ^ k % 2 ≡ 0
    above d =
        ap (λ (n : ℕ). n / 2 ^ k % 2) (pow-add 2 (d + 1) k) ∙ ap (λ (n : ℕ). n % 2) (mul-div_cancel (2 ^ (d + 1)) (pow_pos k))
        ∙ ap (λ (n : ℕ). n % 2) (pow-add 2 d 1) ∙ mul-mod_left (2 ^ d) 2

    other : j ≢ k → 2 ^ j / 2 ^ k % 2 ≡ 0
    other n =
        below_or_not j k (λ h. ap (λ (q : ℕ). q % 2) (div-eq_of_lt (pow-lt h)))
        (λ h. let e : j ≡ j - k - 1 + 1 + k = omega arith in ap (λ (x : ℕ). 2 ^ x / 2 ^ k % 2) e ∙ above (j - k - 1))

    go : (t : Bool) → eqb j k ≡ t → digit (2 ^ j) k ≡ t
    go true e = let s : j ≡ k = eqb-true j k e in rw s (ap (λ (n : ℕ). eqb (n % 2) 1) (div_self (pow_pos k)))
    go false e = rw (other (eqb-false j k e))

-- ---- a word's first bit is its digit 63

-- of a number of j + 1 digits, digit j says whether it is 2 ^ j or more
last_digit : (j m : ℕ) → m < 2 ^ (1 + j) → leb (2 ^ j) m ≡ eqb (m / 2 ^ j) 1
last_digit j m h =
    below_or_not m (2 ^ j)
    (λ small. lt-leb (2 ^ j) m small ∙ rw (div-eq_of_lt small))
    (λ large.
    let twice : 2 ^ (1 + j) ≡ 2 * 2 ^ j = pow-add 2 1 j in
    let one : m / 2 ^ j ≡ 1 = div-eq_of_lt-le (2 ^ j) (omega arith) (omega (arith, twice)) in
    le-leb (2 ^ j) m large ∙ rw one)

first_digit : (w : ℕ) → w < 2 ^ word_bits → starts_with_one w ≡ digit w (word_bits - 1)
first_digit w h =
    let most : w / 2 ^ (word_bits - 1) % 2 ≡ w / 2 ^ (word_bits - 1) = omega arith in
    last_digit (word_bits - 1) w h ∙ rw most

pub both_start : (a b : ℕ) → a < 2 ^ word_bits → b < 2 ^ word_bits → starts_with_one (bit_and a b) ≡ starts_with_one a && starts_with_one b
both_start a b ha hb =
    first_digit (bit_and a b) (and_lt word_bits a b ha hb) ∙ and_digit a b (word_bits - 1)
    ∙ ap₂ ◌&&◌ (sym (first_digit a ha)) (sym (first_digit b hb))

-- k more digits behind, and as many dropped in front
pub shifted_start : (w k : ℕ) → k < word_bits → starts_with_one (w * 2 ^ k % 2 ^ word_bits) ≡ digit w (word_bits - 1 - k)
shifted_start w k h =
    let j : ℕ = word_bits - 1 - k in
    let m : ℕ = w % 2 ^ (1 + j) in
    let whole : word_bits ≡ 1 + j + k = omega arith in
    let below : word_bits - 1 ≡ j + k = omega arith in
    let kept : w * 2 ^ k % 2 ^ word_bits ≡ m * 2 ^ k =
    ap (λ (n : ℕ). w * 2 ^ k % 2 ^ n) whole ∙ mod-pow-add (w * 2 ^ k) (1 + j) k
    ∙ ap₂ (λ (x y : ℕ). x % 2 ^ (1 + j) * 2 ^ k + y) (mul-div_cancel w (pow_pos k)) (mul-mod_left w (2 ^ k)) ∙ add-zero (m * 2 ^ k) in
    let half : 2 ^ (word_bits - 1) ≡ 2 ^ j * 2 ^ k = ap (λ (n : ℕ). 2 ^ n) below ∙ pow-add 2 j k in
    ap₂ leb half kept ∙ scaled j m ∙ last_digit j m (mod-lt w (pow_pos (1 + j))) ∙ rw (field w 1 j)
  where
    scaled : (j m : ℕ) → leb (2 ^ j * 2 ^ k) (m * 2 ^ k) ≡ leb (2 ^ j) m
    scaled j m =
        below_or_not m (2 ^ j)
        (λ small. lt-leb _ _ (mul-lt-mul_of_pos_right small (pow_pos k)) ∙ sym (lt-leb (2 ^ j) m small))
        (λ large. le-leb _ _ (mul-le-mul_right (2 ^ k) large) ∙ sym (le-leb (2 ^ j) m large))

-- the first bit alone, behind k zeros
pub shifted_first : (k : ℕ) → k < word_bits → 2 ^ (word_bits - 1) / 2 ^ k ≡ 2 ^ (word_bits - 1 - k)
shifted_first k h =
    let below : word_bits - 1 ≡ word_bits - 1 - k + k = omega arith in
    ap (λ (n : ℕ). 2 ^ n / 2 ^ k) below ∙ ap (λ (n : ℕ). n / 2 ^ k) (pow-add 2 (word_bits - 1 - k) k)
    ∙ mul-div_cancel (2 ^ (word_bits - 1 - k)) (pow_pos k)
