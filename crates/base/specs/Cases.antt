-- Claims by cases, and functions with one value updated.
use Rattle.std.specs.Prelude.{ℕ, ◌≤◌, ◌<◌, ◌≡◌, refl, ◌≢◌, Bool, true, false, cond, ltb, eqb}
use Rattle.std.proofs.Common.{sym, subst, ltb-true, ltb-false, eqb-true, eq-eqb, ne_eqb}
use Rattle.std.proofs.lemmas.Bool.{eqb-false}

-- a claim about every address, or every epoch: at a, and elsewhere
pub here_or_there : (a : ℕ) (Q : ℕ → Type 0) → Q a → ((b : ℕ) → b ≢ a → Q b) → (b : ℕ) → Q b
here_or_there a Q here there b = go (eqb b a) refl
  where
    go : (t : Bool) → eqb b a ≡ t → Q b
    go true e = subst Q (sym (eqb-true b a e)) here
    go false e = there b (eqb-false b a e)

pub below_or_not : {C : Type 0} (m n : ℕ) → (m < n → C) → (n ≤ m → C) → C
below_or_not {C} m n below not_below = go (ltb m n) refl
  where
    go : (t : Bool) → ltb m n ≡ t → C
    go true e = below (ltb-true m n e)
    go false e = not_below (ltb-false m n e)

-- what holds of both ways holds of the one taken
pub either : {A : Type 0} (P : A → Type 0) (t : Bool) {x y : A} → P x → P y → P (cond t x y)
either P true p q = p
either P false p q = q

-- f, but v at a
unfoldable pub update : {A : Type 0} → (ℕ → A) → ℕ → A → ℕ → A
update f a v b = cond (eqb b a) v (f b)

module _ {A : Type 0} (f : ℕ → A) (a : ℕ) (v : A) where
  pub update_same : update f a v a ≡ v
  unfolding update
  update_same = rw (eq-eqb a a refl)

  pub update_other : (b : ℕ) → b ≢ a → update f a v b ≡ f b
  unfolding update
  update_other b n = rw (ne_eqb b a n)
