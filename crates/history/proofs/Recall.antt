-- The laws of `recall` and `ended`. Assumes nothing.
use Rattle.std.specs.Prelude.{◌≡◌, refl, ◌≢◌, List, [], ◌∷◌, ◌++◌, Bool, true, false, cond, ℕ, ◌≤◌, ◌<◌, leb, eqb, length}
use Rattle.std.proofs.Common.{ap, arith, leb-true, eq-eqb, ne_eqb}
use Rattle.std.proofs.Math.Bool.{and-false}
use Rattle.base.specs.Every.{Every}
use Rattle.ranges.specs.Ranges.{covers, covers_inside, covers_ended}
use Rattle.history.specs.Machine.{Entry, covers_at, recall, Silent, ended, drop_ended}

-- ---- one entry

module _ (x : Entry) (e : ℕ) where
  pub covers_at_own : covers_at x e x.range.address ≡ covers x.range e
  unfolding covers_at
  covers_at_own = rw (eq-eqb x.range.address x.range.address refl)

  pub covers_at_ended : (a : ℕ) → x.range.till ≤ e → covers_at x e a ≡ false
  unfolding covers_at
  covers_at_ended a h = rw (covers_ended x.range e h, and-false (eqb x.range.address a))

  pub covers_at_away : (a : ℕ) → x.range.address ≢ a → covers_at x e a ≡ false
  unfolding covers_at
  covers_at_away a n = rw (ne_eqb x.range.address a n)

  pub covers_at_none : (a : ℕ) → covers x.range e ≡ false → covers_at x e a ≡ false
  unfolding covers_at
  covers_at_none a p = rw (p, and-false (eqb x.range.address a))

-- ---- a log

pub recall_append : (xs ys : List Entry) (e a d : ℕ) → recall (xs ++ ys) e a d ≡ recall xs e a (recall ys e a d)
unfolding recall
recall_append [] ys e a d = refl
recall_append (x ∷ xs) ys e a d = ap (cond (covers_at x e a) x.old) (recall_append xs ys e a d)

-- recovering twice is recovering once
pub recall_twice : (xs : List Entry) (e a d : ℕ) → recall xs e a (recall xs e a d) ≡ recall xs e a d
unfolding recall
recall_twice [] e a d = refl
recall_twice (x ∷ xs) e a d = go (covers_at x e a) refl (recall_twice xs e a d)
  where
    go : (t : Bool) → covers_at x e a ≡ t → recall xs e a (recall xs e a d) ≡ recall xs e a d → recall (x ∷ xs) e a (recall (x ∷ xs) e a d) ≡ recall (x ∷ xs) e a d
    go true p ih = rw p
    go false p ih = rw p ih

-- a new entry is asked last
module _ (xs : List Entry) (x : Entry) (e : ℕ) where
  pub recall_new : x.range.from ≤ e → e < x.range.till → (d : ℕ)
      → recall (xs ++ (x ∷ [])) e x.range.address d ≡ recall xs e x.range.address x.old
  unfolding recall
  recall_new h k d = rw (recall_append xs (x ∷ []) e x.range.address d, covers_at_own x e, covers_inside x.range e h k)

  pub recall_new_away : (a : ℕ) → x.range.address ≢ a → (d : ℕ) → recall (xs ++ (x ∷ [])) e a d ≡ recall xs e a d
  unfolding recall
  recall_new_away a n d = rw (recall_append xs (x ∷ []) e a d, covers_at_away x e a n)

-- ---- entries that have ended

-- so the ring can drop them
pub ended_le : (q : ℕ) (xs : List Entry) → ended q xs ≤ length xs
unfolding ended
ended_le q [] = omega arith
ended_le q (x ∷ xs) = go (leb x.range.till q) refl (ended_le q xs)
  where
    go : (t : Bool) → leb x.range.till q ≡ t → ended q xs ≤ length xs → ended q (x ∷ xs) ≤ length (x ∷ xs)
    go true p ih = rw p (omega arith)
    go false p ih = rw p (omega arith)

-- from epoch q on, what has ended by q is not missed
pub recall_drop_ended : (q : ℕ) (xs : List Entry) (e a d : ℕ) → q ≤ e → recall (drop_ended q xs) e a d ≡ recall xs e a d
unfolding recall ended
recall_drop_ended q [] e a d h = refl
recall_drop_ended q (x ∷ xs) e a d h = go (leb x.range.till q) refl (recall_drop_ended q xs e a d h)
  where
    go : (t : Bool) → leb x.range.till q ≡ t → recall (drop_ended q xs) e a d ≡ recall xs e a d
        → recall (drop_ended q (x ∷ xs)) e a d ≡ recall (x ∷ xs) e a d
    go true p ih = rw (p, covers_at_ended x e a (omega (arith, leb-true x.range.till q p))) ih
    go false p ih = rw p

-- ---- no entry has the address

-- what a write-out's test of the buffer finds: then the line is `Logged`
pub silent_away : (xs : List Entry) (e a : ℕ) → Every (λ x. x.range.address ≢ a) xs → Silent xs e a
unfolding recall
silent_away [] e a h d = refl
silent_away (x ∷ xs) e a h d = rw (covers_at_away x e a h.0) (silent_away xs e a h.1 d)
