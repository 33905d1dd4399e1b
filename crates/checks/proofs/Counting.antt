-- The count of dirty slots: one law for each way out of a function.
use Rattle.std.proofs.Common.{◌≡◌, ℕ, ◌+◌, ◌-◌, ◌≤◌, Bool, true, false, not, ◌&&◌, ◌||◌, eqb, List, [], ◌∷◌, refl, arith, eq-eqb, ne_eqb}
use Rattle.base.specs.Several.{all_of, any_of}
use Rattle.layout.specs.Words.{IsBit, bit}
use Rattle.undo.specs.declared.LogState.{LogState}
use Rattle.slots.specs.Sets.{slots_from}
use Rattle.slots.specs.Slots.{dirty_at}
use Rattle.checks.specs.declared.Registers.{Registers}
use Rattle.checks.specs.declared.View.{View}
use Rattle.checks.specs.Promises.{Countable}
use Rattle.checks.specs.Registers.{recounted, leaving}
use Rattle.checks.specs.View.{miscounted}

-- the test of the count: beside one slot
module _ (v : View) (r : Registers) (work : List ℕ) (k : ℕ) (dirty : Bool) (is : dirty ≡ dirty_at work k) where
  pub beside_dirty : dirty ≡ true → eqb r.dirty 0 ≡ miscounted v r work (k ∷ [])
  unfolding miscounted
  beside_dirty h = rw (← is, h) (go (eqb r.dirty 0) (eqb r.dirty v.slots))
    where
      go : (none all : Bool) → none ≡ none && true || all && false
      go true all = refl
      go false true = refl
      go false false = refl

  pub beside_other : dirty ≡ false → eqb r.dirty v.slots ≡ miscounted v r work (k ∷ [])
  unfolding miscounted
  beside_other h = rw (← is, h) (go (eqb r.dirty 0) (eqb r.dirty v.slots))
    where
      go : (none all : Bool) → all ≡ none && false || all && true
      go true true = refl
      go true false = refl
      go false true = refl
      go false false = refl

-- and beside the slots of a set
module _ (v : View) (r : Registers) (work : List ℕ) (k : ℕ) (some : 1 ≤ v.slots) where
  pub beside_none : (t : Bool) → r.dirty ≡ 0 → t ≡ any_of (dirty_at work) (slots_from k) → t ≡ miscounted v r work (slots_from k)
  unfolding miscounted
  beside_none t z e =
      rw (e, eq-eqb r.dirty 0 z, ne_eqb r.dirty v.slots (omega arith)) (go (any_of (dirty_at work) (slots_from k)))
    where
      go : (x : Bool) → x ≡ x || false
      go true = refl
      go false = refl

  module _ (n : r.dirty ≡ 0 → ⊥) where
    pub beside_all : (t : Bool) → r.dirty ≡ v.slots → t ≡ all_of (dirty_at work) (slots_from k) → not t ≡ miscounted v r work (slots_from k)
    unfolding miscounted
    beside_all t z e = rw (e, ne_eqb r.dirty 0 n, eq-eqb r.dirty v.slots z)

    pub beside_between : (r.dirty ≡ v.slots → ⊥) → false ≡ miscounted v r work (slots_from k)
    unfolding miscounted
    beside_between m = rw (ne_eqb r.dirty 0 n, ne_eqb r.dirty v.slots m)

-- its change
module _ (r : Registers) (was is : Bool) (n m : ℕ) (less : IsBit was n) (more : IsBit is m) where
  pub count_enough : Countable r was → n ≤ r.dirty
  count_enough c = rw less.is (go was refl)
    where
      go : (t : Bool) → was ≡ t → bit t ≤ r.dirty
      go true e = omega (arith, c.least e)
      go false e = omega arith

  pub count_changed : (u : LogState)
      → record { epoch = r.epoch; buffered = u.buffered; cursor = r.cursor; dirty = r.dirty - n + m; target = r.target } ≡ leaving (recounted r was is) u
  count_changed u = rw (less.is, more.is)
