-- The first place at which a test fails: what a loop finds that tests the places in order and stops by `break`.
-- The loop's invariant is `Walked`, its turn `walk_next`, its ways out `walk_end` and `walk_found`.
use Prim.Native.Nat.{ℕ, zero, suc, ◌+◌, ◌-◌, ◌<◌, ◌≤◌}
use Rattle.std.specs.Prelude.{◌≡◌, refl, Bool, true, false, cond, not, ◌&&◌, ltb, leb}
use Rattle.std.proofs.Math.Path.{sym}
use Rattle.std.proofs.Common.{ap₂, ◌∙◌, suc-add, add-one, lt-ltb, le-ltb, le-leb, leb-true}
use native.Mathlib.Omega.{arith}
use Rattle.std.proofs.Math.Decide.{ℕ_discrete}
use Rattle.std.proofs.lemmas.Bool.{lt-leb, not-true, not-false}
use Rattle.base.specs.Tests.{and_left, and_right, and_true}

-- the first of the k places from i on at which f is false, or i + k
unfoldable pub first_from : (ℕ → Bool) → ℕ → ℕ → ℕ
first_from f i zero = i
first_from f i (suc k) = cond (f i) (first_from f (suc i) k) i

-- the first of n places at which f is false, or n
abbrev pub first : (ℕ → Bool) → ℕ → ℕ
first f n = first_from f 0 n

-- the places before i passed the test
pub record Walked (f : ℕ → Bool) (n i : ℕ) : Type 0 where
  pub within : i ≤ n
  pub so_far : first f n ≡ first_from f i (n - i)

pub walk_start : (f : ℕ → Bool) (n : ℕ) → Walked f n 0
walk_start f n = let e : n - 0 ≡ n = omega arith in record { within = omega arith; so_far = rw e }

module _ {f : ℕ → Bool} {n i : ℕ} (w : Walked f n i) where
  pub walk_end : n ≤ i → i ≡ first f n
  unfolding first_from
  walk_end h = let k : n - i ≡ 0 = omega arith in sym (w.so_far ∙ rw k)

  pub walk_stop : i < n → f i ≡ false → i ≡ first f n
  unfolding first_from
  walk_stop h e = let k : n - i ≡ suc (n - i - 1) = omega arith in sym (w.so_far ∙ rw (k, e))

  pub walk_pass : i < n → f i ≡ true → Walked f n (i + 1)
  unfolding first_from
  walk_pass h e =
      let k : n - i ≡ suc (n - (i + 1)) = omega arith in
      record { within = omega arith; so_far = w.so_far ∙ rw (k, e, add-one) }

  -- the same where a function answers the test, as `if !f(i) { break i; }`
  pub walk_found : (t : Bool) → t ≡ f i → i < n → not t ≡ true → i ≡ first f n
  walk_found t a h e = walk_stop h (sym a ∙ not-true t e)

  pub walk_next : (t : Bool) → t ≡ f i → i < n → not t ≡ false → Walked f n (i + 1)
  walk_next t a h e = walk_pass h (sym a ∙ not-false t e)

  -- the same for a function that only answers whether all places passed, or whether one failed
  pub walk_all : n ≤ i → true ≡ leb n (first f n)
  walk_all h = sym (le-leb n (first f n) (rw (← (walk_end h)) h))

  pub walk_not_all : (t : Bool) → t ≡ f i → i < n → not t ≡ true → false ≡ leb n (first f n)
  walk_not_all t a h e = sym (lt-leb n (first f n) (rw (← (walk_found t a h e)) h))

  pub walk_none : n ≤ i → false ≡ ltb (first f n) n
  walk_none h = sym (le-ltb (first f n) n (rw (← (walk_end h)) h))

  pub walk_some : (t : Bool) → t ≡ f i → i < n → not t ≡ true → true ≡ ltb (first f n) n
  walk_some t a h e = sym (lt-ltb (first f n) n (rw (← (walk_found t a h e)) h))

-- where the walk came to the end, every test held
all_from : (f : ℕ → Bool) (k i j : ℕ) → i + k ≤ first_from f i k → i ≤ j → j < i + k → f j ≡ true
unfolding first_from
all_from f zero i j e h g = absurd (omega arith)
all_from f (suc k) i j e h g = go (all_from f k (suc i) j) (f i) refl e
  where
    Rest : Type 0
    Rest = suc i + k ≤ first_from f (suc i) k → suc i ≤ j → j < suc i + k → f j ≡ true

    from : Rest → i + suc k ≤ first_from f (suc i) k → f i ≡ true → Dec (i ≡ j) → f j ≡ true
    from rest x y (yes p) = rw p at y
    from rest x y (no p) = rest (omega arith) (omega arith) (omega arith)

    go : Rest → (t : Bool) → f i ≡ t → i + suc k ≤ cond t (first_from f (suc i) k) i → f j ≡ true
    go rest true y x = from rest x y (ℕ_discrete i j)
    go rest false y x = absurd (omega arith)

pub first_all : (f : ℕ → Bool) (n : ℕ) → n ≤ first f n → (j : ℕ) → j < n → f j ≡ true
first_all f n h j g = all_from f n 0 j (omega arith) (omega arith) (omega arith)

-- and where every test holds, the walk comes to the end
module _ (f : ℕ → Bool) (n : ℕ) (all : (i : ℕ) → i < n → f i ≡ true) where
  walked : (i : ℕ) → i ≤ n → Walked f n i
  walked zero h = walk_start f n
  walked (suc i) h = rw add-one at (walk_pass (walked i (omega arith)) h (all i h))

  pub all_first : leb n (first f n) ≡ true
  all_first = sym (walk_all (walked n (omega arith)) (omega arith))

-- only the places that are walked count
from_same : (f g : ℕ → Bool) (k i : ℕ) → ((j : ℕ) → i ≤ j → j < i + k → f j ≡ g j) → first_from f i k ≡ first_from g i k
unfolding first_from
from_same f g zero i same = refl
from_same f g (suc k) i same =
    ap₂ (λ (t : Bool) (n : ℕ). cond t n i) (same i (omega arith) (omega arith)) (from_same f g k (suc i) (λ j h g. same j (omega arith) (omega arith)))

pub first_same : (f g : ℕ → Bool) (n : ℕ) → ((i : ℕ) → i < n → f i ≡ g i) → first f n ≡ first g n
first_same f g n same = from_same f g n 0 (λ j h below. same j (omega arith))

-- a walk in two parts: the second is walked where the first comes to its end
from_parts : (f : ℕ → Bool) (m n i : ℕ) → first_from f i (m + n) ≡ cond (ltb (first_from f i m) (i + m)) (first_from f i m) (first_from f (i + m) n)
unfolding first_from
from_parts f zero n i =
    let e : i + 0 ≡ i = omega arith in
    let z : 0 + n ≡ n = omega arith in
    rw (e, z, le-ltb i i (omega arith))
from_parts f (suc m) n i = go (f i) refl (from_parts f m n (suc i))
  where
    next : suc i + m ≡ i + suc m
    next = omega arith

    go : (t : Bool) → f i ≡ t
        → first_from f (suc i) (m + n) ≡ cond (ltb (first_from f (suc i) m) (suc i + m)) (first_from f (suc i) m) (first_from f (suc i + m) n)
        → first_from f i (suc m + n)
        ≡ cond (ltb (cond (f i) (first_from f (suc i) m) i) (i + suc m)) (cond (f i) (first_from f (suc i) m) i) (first_from f (i + suc m) n)
    go true e rest = rw (suc-add, e) (rw next at rest)
    go false e rest = rw (suc-add, e, lt-ltb i (i + suc m) (omega arith))

from_behind : (f : ℕ → Bool) (m n i : ℕ) → first_from f (m + i) n ≡ m + first_from (λ (k : ℕ). f (m + k)) i n
unfolding first_from
from_behind f m zero i = refl
from_behind f m (suc n) i =
    let e : suc (m + i) ≡ m + suc i = omega arith in
    rw (e, from_behind f m n (suc i)) (same (f (m + i)))
  where
    same : (t : Bool) → cond t (m + first_from (λ (k : ℕ). f (m + k)) (suc i) n) (m + i) ≡ m + cond t (first_from (λ (k : ℕ). f (m + k)) (suc i) n) i
    same true = refl
    same false = refl

module _ (f : ℕ → Bool) (m n : ℕ) where
  pub first_early : first f m < m → first f (m + n) ≡ first f m
  first_early h = from_parts f m n 0 ∙ rw (lt-ltb (first f m) (0 + m) (omega arith))

  pub first_late : m ≤ first f m → first f (m + n) ≡ m + first (λ (k : ℕ). f (m + k)) n
  first_late h =
      let e : 0 + m ≡ m + 0 = omega arith in
      from_parts f m n 0 ∙ rw (le-ltb (first f m) (0 + m) (omega arith), e) (from_behind f m n 0)

-- two tests at once pass at every place exactly if each does
pub both_first : (f g : ℕ → Bool) (n : ℕ) → leb n (first (λ (i : ℕ). f i && g i) n) ≡ leb n (first f n) && leb n (first g n)
both_first f g n = go (leb n (first both n)) (leb n (first f n)) (leb n (first g n)) refl refl refl
  where
    both : ℕ → Bool
    both i = f i && g i

    passed : (h : ℕ → Bool) → leb n (first h n) ≡ true → (i : ℕ) → i < n → h i ≡ true
    passed h e = first_all h n (leb-true n (first h n) e)

    go : (a b c : Bool) → leb n (first both n) ≡ a → leb n (first f n) ≡ b → leb n (first g n) ≡ c → a ≡ b && c
    go true b c e x y =
        sym (and_true b c (sym x ∙ all_first f n (λ i h. and_left (f i) (g i) (passed both e i h)))
        (sym y ∙ all_first g n (λ i h. and_right (f i) (g i) (passed both e i h))))
    go false true true e x y = sym e ∙ all_first both n (λ i h. and_true (f i) (g i) (passed f x i h) (passed g y i h))
    go false true false e x y = refl
    go false false c e x y = refl

-- a walk ends at or behind the place where it starts, and at most behind the last
from_least : (f : ℕ → Bool) (k i : ℕ) → i ≤ first_from f i k
unfolding first_from
from_least f zero i = omega arith
from_least f (suc k) i = go (f i) (from_least f k (suc i))
  where
    go : (t : Bool) → suc i ≤ first_from f (suc i) k → i ≤ cond t (first_from f (suc i) k) i
    go true h = omega arith
    go false h = omega arith

from_most : (f : ℕ → Bool) (k i : ℕ) → first_from f i k ≤ i + k
unfolding first_from
from_most f zero i = omega arith
from_most f (suc k) i = go (f i) (from_most f k (suc i))
  where
    go : (t : Bool) → first_from f (suc i) k ≤ suc i + k → cond t (first_from f (suc i) k) i ≤ i + suc k
    go true h = omega arith
    go false h = omega arith

pub first_most : (f : ℕ → Bool) (n : ℕ) → first f n ≤ n
first_most f n = omega (arith, from_most f n 0)

-- and behind the first place, where that passes the test
pub first_least : (f : ℕ → Bool) (n : ℕ) → 0 < n → f 0 ≡ true → 0 < first f n
unfolding first_from
first_least f zero h e = absurd (omega arith)
first_least f (suc n) h e = rw e (from_least f n 1)
