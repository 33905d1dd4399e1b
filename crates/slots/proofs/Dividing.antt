-- One inverse for every address. With M sets' number n, inverse of M, n M = 2^32 + e for an e below n: so a number q n + r, times M, is
-- q 2^32 + (q e + r M), and what is in brackets stays below 2^32.
use Prim.Native.Nat.{ℕ, ◌+◌, ◌-◌, ◌*◌, ◌/◌, ◌%◌, ◌^◌, ◌<◌, ◌≤◌}
use mathlib.Core.Path.{◌≡◌, refl, sym, ap, ◌∙◌}
use mathlib.Core.Bool.{Bool, true, false}
use native.Mathlib.Nat.{mod-lt, mod-add-mod, mod-eq_of_lt, mod-eq-sub-mod, div-add-mod, mul_comm, mul_assoc, mul-add, add-mul, mul-le-mul, mul-le-mul_left, mul-le-mul_right}
use mir.Syntax.{w64}
use mir.Val.{Fits}
use native.Mathlib.Omega.{arith}
use borrow.Author.Tests.{ltb-true, lt-ltb, eq-eqb, ne_eqb, eqb-true, eqb-false}
use lib.Arith.{digits_div, digits_mod}
use lib.Dec.{ltb, eqb}
use Rattle.base.specs.Cases.{below_or_not}
use Rattle.base.specs.Tests.{hold_together}
use Rattle.layout.specs.Limits.{address_bits, ways, most_slots}
use Rattle.slots.specs.declared.sets.Sets.{Sets}
use Rattle.layout.specs.Sizes.{WholeSets}
use Rattle.slots.specs.Passes.{scale, near, Dividing, SetsOf, fraction_of, Remains}

-- one more, times m
times_next : (r n m : ℕ) → r < n → r * m + m ≤ n * m
times_next r n m h =
    let most : (r + 1) * m ≤ n * m = mul-le-mul_right m (omega arith) in
    omega (arith, most, add-mul r 1 m)

module _ (s : Sets) (d : Dividing s) where
  abbrev n : ℕ
  n = s.count

  abbrev m : ℕ
  m = s.inverse

  abbrev excess : ℕ
  excess = m * n - scale

  whole : m * n ≡ scale + excess
  whole = omega (arith, d.least)

  -- the inverse is large
  inverse_large : 2 ^ 26 ≤ m
  inverse_large =
      let few = mul-le-mul_left m d.most in
      omega (arith, d.least)

  module _ (x : ℕ) (small : x < near) where
    abbrev q : ℕ
    q = x / n

    abbrev r : ℕ
    r = x % n

    abbrev rest : ℕ
    rest = q * excess + r * m

    parts : n * q + r ≡ x
    parts = div-add-mod x n

    below : r < n
    below = mod-lt x d.some

    product : x * m ≡ q * scale + rest
    product =
        let a : (n * q + r) * m ≡ n * q * m + r * m = add-mul (n * q) r m in
        let b : n * q * m ≡ q * (m * n) = ap (λ (y : ℕ). y * m) (mul_comm n q) ∙ mul_assoc q n m ∙ ap (λ (y : ℕ). q * y) (mul_comm n m) in
        let c : q * (m * n) ≡ q * scale + q * excess = ap (λ (y : ℕ). q * y) whole ∙ mul-add q scale excess in
        let e : x * m ≡ (n * q + r) * m = ap (λ (y : ℕ). y * m) (sym parts) in
        omega (arith, a, b, c, e)

    excess_few : q * excess < near
    excess_few =
        let few : q * excess ≤ q * n = mul-le-mul_left q (omega (arith, whole, d.closely)) in
        omega (arith, few, mul_comm q n, parts)

    -- n - 1 times the inverse is about the inverse below 2^32
    rest_below : rest < scale
    rest_below =
        let most = times_next r n m below in
        omega (arith, most, mul_comm n m, whole, d.closely, d.most, inverse_large, excess_few)

    fraction_is : fraction_of s x ≡ rest
    fraction_is = rw product (digits_mod q rest_below)

    -- it is small exactly for a multiple
    pub fraction_near : ltb (fraction_of s x) near ≡ eqb r 0
    fraction_near =
        hold_together _ _
        (λ t.
        let small : fraction_of s x < near = ltb-true (fraction_of s x) near t in
        none (eqb r 0) refl (rw fraction_is at small))
        (λ t.
        let zero : r ≡ 0 = eqb-true r 0 t in
        lt-ltb (fraction_of s x) near (rw fraction_is (rw zero (omega (arith, excess_few)))))
      where
        none : (t : Bool) → eqb r 0 ≡ t → rest < near → t ≡ true
        none true e few = refl
        none false e few =
            let other : r ≡ 0 → ⊥ = eqb-false r 0 e in
            let least : 1 * m ≤ r * m = mul-le-mul_right m (omega arith) in
            absurd (omega (arith, least, inverse_large))

    -- and times the number of sets it gives the remainder back
    remainder_product : rest * n ≡ r * scale + excess * x
    remainder_product =
        let a : rest * n ≡ q * excess * n + r * m * n = add-mul (q * excess) (r * m) n in
        let b : r * m * n ≡ r * scale + r * excess = mul_assoc r m n ∙ ap (λ (y : ℕ). r * y) whole ∙ mul-add r scale excess in
        let c : q * excess * n ≡ excess * (n * q) =
        ap (λ (y : ℕ). y * n) (mul_comm q excess) ∙ mul_assoc excess q n ∙ ap (λ (y : ℕ). excess * y) (mul_comm q n) in
        let e : excess * x ≡ excess * (n * q) + excess * r = ap (λ (y : ℕ). excess * y) (sym parts) ∙ mul-add excess (n * q) r in
        omega (arith, a, b, c, e, mul_comm r excess)

    excess_product : excess * x < scale
    excess_product =
        let most : excess * x ≤ excess * near = mul-le-mul_left excess (omega arith) in
        omega (arith, most, whole, d.closely, d.most)

    remainder_is : fraction_of s x * n / scale ≡ r
    remainder_is = rw (fraction_is, remainder_product) (digits_div r excess_product)

    remainder : Remains n x (fraction_of s x * n / scale)
    remainder = record { is = remainder_is; below = rw remainder_is below }

  pub product_fits : (x : ℕ) → x < near → Fits w64 (x * m)
  product_fits x h = record { fits = omega (arith, mul-le-mul {n₁ = x} {m₁ = m} {n₂ = near} {m₂ = scale} (omega arith) d.fits) }

  pub fraction_fits : (x f : ℕ) → f ≡ fraction_of s x → Fits w64 (f * n)
  fraction_fits x f e =
      let below : fraction_of s x < scale = mod-lt (x * m) (omega arith) in
      record { fits = omega (arith, mul-le-mul {n₁ = f} {m₁ = n} {n₂ = scale} {m₂ = most_slots / ways} (omega arith) d.most) }

  pub remains : (x f : ℕ) → x < 2 ^ address_bits → f ≡ fraction_of s x → Remains n x (f * n / scale)
  remains x f h e = rw e (remainder x (omega arith))

  -- so far away from the number of sets as a multiple is from it
  pub away_multiple : (x away : ℕ) → 1 ≤ away → away ≤ n → eqb ((x + away) % n) 0 ≡ eqb (x % n) (n - away)
  away_multiple x away some most = rw (← mod-add-mod) (below_or_not (x % n + away) n short long)
    where
      r' : ℕ
      r' = x % n

      short : r' + away < n → eqb ((r' + away) % n) 0 ≡ eqb r' (n - away)
      short h = rw (mod-eq_of_lt h, ne_eqb (r' + away) 0 (omega arith), ne_eqb r' (n - away) (omega arith))

      long : n ≤ r' + away → eqb ((r' + away) % n) 0 ≡ eqb r' (n - away)
      long h =
          let less = mod-lt x d.some in
          let same : (r' + away) % n ≡ r' + away - n = mod-eq-sub-mod h ∙ mod-eq_of_lt (omega arith) in
          rw same (hold_together _ _
          (λ t. let z = eqb-true (r' + away - n) 0 t in eq-eqb r' (n - away) (omega arith))
          (λ t. let z = eqb-true r' (n - away) t in eq-eqb (r' + away - n) 0 (omega arith)))

-- the inverse that the code makes
module _ (k : ℕ) (some : 1 ≤ k) where
  quotient_most : (2 ^ 32 - 1) / k ≤ 2 ^ 32 - 1
  quotient_most = omega (arith, div-add-mod (2 ^ 32 - 1) k, mul-le-mul_right ((2 ^ 32 - 1) / k) some)

module _ (slots : ℕ) (ready : WholeSets slots) where
  some_sets : 1 ≤ slots / ways
  some_sets = omega (arith, ready.some)

  pub quotient_fits : Fits w64 ((2 ^ 32 - 1) / (slots / ways))
  quotient_fits = record { fits = omega (arith, quotient_most (slots / ways) some_sets) }

  pub inverse_fits : Fits w64 ((2 ^ 32 - 1) / (slots / ways) + 1)
  inverse_fits = record { fits = omega (arith, quotient_most (slots / ways) some_sets) }

pub sets_of : (slots : ℕ) → WholeSets slots
    → SetsOf slots (record { count = slots / ways; inverse = (2 ^ 32 - 1) / (slots / ways) + 1 })
sets_of slots ready =
    record {
      count = refl;
      dividing =
          record {
            some = some;
            most = omega (arith, ready.most);
            least = omega (arith, whole, over, mod-lt (2 ^ 32 - 1) some);
            closely = omega (arith, whole, over);
            fits = omega (arith, quotient_most k some);
          };
    }
  where
    k : ℕ
    k = slots / ways

    some : 1 ≤ k
    some = omega (arith, ready.some)

    whole : k * ((2 ^ 32 - 1) / k) + (2 ^ 32 - 1) % k ≡ 2 ^ 32 - 1
    whole = div-add-mod (2 ^ 32 - 1) k

    over : ((2 ^ 32 - 1) / k + 1) * k ≡ k * ((2 ^ 32 - 1) / k) + k
    over = add-mul ((2 ^ 32 - 1) / k) 1 k ∙ omega (arith, mul_comm ((2 ^ 32 - 1) / k) k)
