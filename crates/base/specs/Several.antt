-- Tests of several numbers.
use Rattle.std.specs.Prelude.{ℕ, ◌≡◌, refl, Bool, true, false, cond, ◌&&◌, ◌||◌, not, List, [], ◌∷◌}
use Rattle.std.proofs.Common.{sym}
use Rattle.std.proofs.lemmas.Bool.{false≢true}
use Rattle.base.specs.Tests.{and_left, and_right, and_true}
use Rattle.base.specs.Cases.{either}
use Rattle.base.specs.Every.{Every}

abbrev pub all_of : (ℕ → Bool) → List ℕ → Bool
all_of f [] = true
all_of f (k ∷ ks) = f k && all_of f ks

abbrev pub any_of : (ℕ → Bool) → List ℕ → Bool
any_of f [] = false
any_of f (k ∷ ks) = f k || any_of f ks

-- the first of which the test holds, or another number
abbrev pub first_of : (ℕ → Bool) → List ℕ → (otherwise : ℕ) → ℕ
first_of f [] otherwise = otherwise
first_of f (k ∷ ks) otherwise = cond (f k) k (first_of f ks otherwise)

-- ---- laws

module _ (p : ℕ → Bool) (k : ℕ) (ks : List ℕ) (all : all_of p (k ∷ ks) ≡ true) where
  pub all_head : p k ≡ true
  all_head = and_left (p k) (all_of p ks) all

  pub all_tail : all_of p ks ≡ true
  all_tail = and_right (p k) (all_of p ks) all

-- a test that holds of all holds of the first for which another does, if of the other number too
pub first_all : (f p : ℕ → Bool) (ks : List ℕ) (otherwise : ℕ) → all_of p ks ≡ true → p otherwise ≡ true → p (first_of f ks otherwise) ≡ true
first_all f p [] otherwise all other = other
first_all f p (k ∷ ks) otherwise all other =
    either (λ j. p j ≡ true) (f k) (all_head p k ks all) (first_all f p ks otherwise (all_tail p k ks all) other)

-- the first of which it holds, if there is one
pub first_holds : (f : ℕ → Bool) (ks : List ℕ) (otherwise : ℕ) → any_of f ks ≡ true → f (first_of f ks otherwise) ≡ true
first_holds f [] otherwise e = absurd (false≢true e)
first_holds f (k ∷ ks) otherwise e = go (f k) refl e (first_holds f ks otherwise)
  where
    go : (t : Bool) → f k ≡ t → t || any_of f ks ≡ true → (any_of f ks ≡ true → f (first_of f ks otherwise) ≡ true)
        → f (cond t k (first_of f ks otherwise)) ≡ true
    go true h e rest = h
    go false h e rest = rest e

pub first_none : (f : ℕ → Bool) (ks : List ℕ) (otherwise : ℕ) → any_of f ks ≡ false → first_of f ks otherwise ≡ otherwise
first_none f [] otherwise e = refl
first_none f (k ∷ ks) otherwise e = go (f k) e (first_none f ks otherwise)
  where
    go : (t : Bool) → t || any_of f ks ≡ false → (any_of f ks ≡ false → first_of f ks otherwise ≡ otherwise)
        → cond t k (first_of f ks otherwise) ≡ otherwise
    go true e rest = absurd (false≢true (sym e))
    go false e rest = rest e

-- it holds of none where it does not of any
pub none_all : (f : ℕ → Bool) (ks : List ℕ) → any_of f ks ≡ false → all_of (λ k. not (f k)) ks ≡ true
none_all f [] e = refl
none_all f (k ∷ ks) e = go (f k) e (none_all f ks)
  where
    go : (t : Bool) → t || any_of f ks ≡ false → (any_of f ks ≡ false → all_of (λ k. not (f k)) ks ≡ true)
        → not t && all_of (λ k. not (f k)) ks ≡ true
    go true e rest = absurd (false≢true (sym e))
    go false e rest = rest e

-- ---- a claim about each, and the test

module _ (f : ℕ → Bool) (Q : ℕ → Type 0) where
  pub every_all : ((k : ℕ) → Q k → f k ≡ true) → (ks : List ℕ) → Every Q ks → all_of f ks ≡ true
  every_all h [] e = refl
  every_all h (k ∷ ks) e = and_true (f k) (all_of f ks) (h k e.0) (every_all h ks e.1)

  pub every_none : ((k : ℕ) → Q k → f k ≡ false) → (ks : List ℕ) → Every Q ks → any_of f ks ≡ false
  every_none h [] e = refl
  every_none h (k ∷ ks) e = rw (h k e.0, every_none h ks e.1)
