-- The tests of a slot, and where an address is found.
use Prim.Native.Nat.{ℕ}
use mathlib.Core.Path.{◌≡◌}
use mathlib.Core.Bool.{Bool, true, false, not}
use mathlib.Core.List.{List}
use borrow.Author.Tests.{not-true, not-false}
use lib.Dec.{eqb}
use Rattle.layout.specs.declared.Slot.{Slot}
use Rattle.layout.specs.Memory.{slot_in}
use Rattle.layout.specs.Words.{Decoded, SlotFits}
use Rattle.slots.specs.declared.Spot.{Spot}
use Rattle.slots.specs.Slots.{dirty_at, entry_due, undo_due}

pub dirty_at_holds : (work : List ℕ) (k : ℕ) (s : Slot) → Decoded SlotFits (slot_in work k) s → s.dirty ≡ dirty_at work k
dirty_at_holds work k s d = rw d.is

-- whether a store owes an undo entry
module _ (s : Slot) (epoch : ℕ) where
  pub due_clean : not s.dirty ≡ true → true ≡ entry_due epoch s
  unfolding entry_due
  due_clean h = rw (not-true s.dirty h)

  pub due_dirty : not s.dirty ≡ false → not (eqb s.tag epoch) ≡ entry_due epoch s
  unfolding entry_due
  due_dirty h = rw (not-false s.dirty h)

module _ (work : List ℕ) (spot : Spot) (epoch : ℕ) where
  pub undo_brought : not spot.held ≡ true → true ≡ undo_due work spot epoch
  unfolding undo_due
  undo_brought h = rw h

  pub undo_held : (s : Slot) (t : Bool) → not spot.held ≡ false → Decoded SlotFits (slot_in work spot.slot) s → t ≡ entry_due epoch s
      → t ≡ undo_due work spot epoch
  unfolding undo_due
  undo_held s t h d a = rw (h, ← d.is) a
