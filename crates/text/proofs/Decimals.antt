-- A number that is printed: how many digits it takes, and that these are all.
use Rattle.std.specs.Prelude.{ℕ, zero, suc, ◌+◌, ◌-◌, ◌^◌, ◌<◌, ◌≤◌, ◌≡◌, refl, Bool, true, false, List, ltb, leb, length, take}
use Rattle.std.proofs.Common.{sym, ◌∙◌, ltb-true, ltb-false, le-leb, arith}
use Rattle.std.proofs.Math.Path.{ap}
use Rattle.std.proofs.lemmas.Bool.{lt-leb}
use Rattle.std.proofs.Math.Nat.{pow-le-pow_right}
use Rattle.base.specs.Walk.{first_from}
use Rattle.io.specs.Digits.{last_digits, IsDigitCount}
use Rattle.text.specs.Text.{most_digits, decimal_places, decimal_of}
use Rattle.text.specs.Printing.{Prints, prints_as}

pub digits_most : (n k : ℕ) → IsDigitCount 10 1 n k → n < 2 ^ 64 → k ≤ most_digits
digits_most n k f h = go (ltb most_digits k) refl
  where
    go : (t : Bool) → ltb most_digits k ≡ t → k ≤ most_digits
    go true e =
        let g : most_digits < k = ltb-true most_digits k e in
        let p : 10 ^ most_digits ≤ 10 ^ (k - 1) = pow-le-pow_right {n = 10} (omega arith) {i = most_digits} {j = k - 1} (omega arith) in
        let q : 10 ^ (k - 1) ≤ n = f.2 (omega arith) in
        absurd (omega (arith, p, q, h))
    go false e = ltb-false most_digits k e

-- the first place where a test fails, d places on
first_is : (f : ℕ → Bool) (d i k : ℕ) → ((j : ℕ) → i ≤ j → j < i + d → f j ≡ true) → f (i + d) ≡ false → d < k → first_from f i k ≡ i + d
unfolding first_from
first_is f d i zero p e h = absurd (omega arith)
first_is f zero i (suc k) p e h = let z : i + 0 ≡ i = omega arith in rw ((rw z at e), z)
first_is f (suc d) i (suc k) p e h =
    let s : i + suc d ≡ suc i + d = omega arith in
    rw (p i (omega arith) (omega arith), s) (first_is f d (suc i) k (λ j x y. p j (omega arith) (omega arith)) (rw s at e) (omega arith))

places_is : (n k : ℕ) → IsDigitCount 10 1 n k → n < 2 ^ 64 → decimal_places n ≡ k
unfolding decimal_places
places_is n k f h =
    let m : k ≤ most_digits = digits_most n k f h in
    let s : 1 + (k - 1) ≡ k = omega (arith, f.0) in
    first_is (λ j. leb (10 ^ j) n) (k - 1) 1 most_digits passed failed (omega (arith, m)) ∙ s
  where
    passed : (j : ℕ) → 1 ≤ j → j < 1 + (k - 1) → leb (10 ^ j) n ≡ true
    passed j x y =
        le-leb (10 ^ j) n (omega (arith, pow-le-pow_right {n = 10} (omega arith) {i = j} {j = k - 1} (omega arith), f.2 (omega arith)))

    failed : leb (10 ^ (1 + (k - 1))) n ≡ false
    failed = let s : 1 + (k - 1) ≡ k = omega (arith, f.0) in rw s (lt-leb (10 ^ k) n f.1)

pub decimal_fits : (n k at : ℕ) (text out : List ℕ) → IsDigitCount 10 1 n k → k ≡ length (take k text) → n < 2 ^ 64 → at + most_digits ≤ length out
    → at + length (take k text) ≤ length out
decimal_fits n k at text out f e h g = omega (arith, digits_most n k f h, e)

pub decimal_printed : (n k at r : ℕ) (text out out' : List ℕ) → IsDigitCount 10 1 n k → k ≡ length (take k text) → take k text ≡ last_digits 10 k n → n < 2 ^ 64
    → Prints (length (take k text)) out at (take k text) out' r → Prints most_digits out at (decimal_of n) out' r
unfolding decimal_of
decimal_printed n k at r text out out' f e d h p =
    let m : length (take k text) ≤ most_digits = omega (arith, digits_most n k f h, e) in
    prints_as (d ∙ ap (λ (x : ℕ). last_digits 10 x n) (sym (places_is n k f h))) m p
