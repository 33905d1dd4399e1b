-- Lines on their way between the slots and the board: one law for each way out of a function.
use Prim.Native.Nat.{ℕ, ◌+◌, ◌-◌, ◌*◌, ◌≤◌}
use mathlib.Core.Path.{◌≡◌, refl, ◌∙◌}
use mathlib.Core.Bool.{Bool, true, false, not}
use mathlib.Core.List.{List, ◌++◌}
use native.Mathlib.Omega.{arith}
use borrow.Author.Tests.{not-true, not-false}
use lib.ListN.{length, get_or, take, drop}
use Rattle.base.specs.Parts.{set_pair, rest_lent, rest_back}
use Rattle.board.specs.declared.Meter.{Meter}
use Rattle.board.specs.Stores.{one, shifted, Ran}
use Rattle.board.specs.Laws.{ran_none, ran_then, ran_length}
use Rattle.board.specs.Parts.{ran_part}
use Rattle.layout.specs.declared.Slot.{Slot}
use Rattle.layout.specs.Memory.{lines_at, buffer_at, buffer_in, slot_in, data_in}
use Rattle.layout.specs.Words.{Decoded, SlotFits, encode_slot}
use Rattle.undo.specs.declared.LogState.{LogState}
use Rattle.undo.specs.declared.Progress.{Progress}
use Rattle.undo.specs.Filter.{hits}
use Rattle.undo.specs.Promises.{Flushes}
use Rattle.slots.specs.Slots.{clean_slot, zeroed, filled}
use Rattle.layout.specs.Memory.{with_buffer}
use Rattle.steps.specs.Effects.{flushing_if, writing_out, writing_back, emptying, line_in}
use Rattle.steps.specs.Promises.{Acts, LineReady, SlotReady}

module _ (due : Bool) (board work : List ℕ) (u : LogState) (m : Meter) where
  pub flush_spared : not due ≡ true → Acts board m (flushing_if due u work) board work (record { undo = u; meter = m })
  unfolding flushing_if
  flush_spared h = rw (not-true due h) record { ran = ran_none board m; undo = refl; memory = refl }

  -- the buffer is lent and taken back
  pub flush_made : (at : ℕ) (board' buffer' : List ℕ) (r : Progress) → at ≡ buffer_at (length work) → not due ≡ false
      → Flushes board (take (length work - at) (drop at work)) u m board' buffer' r
      → Acts board m (flushing_if due u work) board'
      (take at work
      ++ (buffer' ++ drop (length work - at) (drop at work)))
      r
  unfolding flushing_if with_buffer
  flush_made at board' buffer' r here h x =
      let e : take (length work - at) (drop at work) ≡ buffer_in work = rest_lent at work ∙ rw here in
      rw (not-false due h) record {
        ran = rw e at x.ran;
        undo = x.undo;
        memory = rw (rest_back at work buffer', x.memory, e, here);
      }

pub written : (board work : List ℕ) (u : LogState) (address value : ℕ) (m m' : Meter) (due : Bool) (board' work' part : List ℕ) (f : Progress) (at lines : ℕ)
    → LineReady board work u address → at ≡ buffer_at (length work)
    → due ≡ hits (take (length work - at) (drop at work)) u.buffered address
    → Acts board m (flushing_if due u work) board' work' f → lines ≡ lines_at u.entries
    → Ran (take (length board' - lines) (drop lines board')) f.meter (one address value) part m'
    → Acts board m (writing_out u work address value) (take lines board' ++ (part ++ drop (length board' - lines) (drop lines board'))) work'
    (record { undo = f.undo; meter = m' })
unfolding writing_out shifted
written board work u address value m m' due board' work' part f at lines ready here d x l y =
    let e : due ≡ hits (buffer_in work) u.buffered address = rw (rest_lent at work, here) at d in
    let h : lines ≤ length board' = omega (arith, ready.named, ran_length (flushing_if due u work).stores x.ran) in
    rw (← e, ← l) record { ran = ran_then x.ran (ran_part lines h y); undo = x.undo; memory = x.memory }

-- a line leaves its slot
module _ (board work : List ℕ) (u : LogState) (k : ℕ) (s : Slot) (read : Decoded SlotFits (slot_in work k) s) where
  pub slot_line : SlotReady board work u k → LineReady board work u s.address
  slot_line h = record { ready = h.ready; named = rw read.is h.named; fits = read.fits.address }

  pub leave_clean : (m : Meter) → not s.dirty ≡ true → Acts board m (writing_back u work k) board work (record { undo = u; meter = m })
  unfolding writing_back
  leave_clean m h = rw (← read.is, not-true s.dirty h) record { ran = ran_none board m; undo = refl; memory = refl }

  pub leave_dirty : (m : Meter) (board' work' : List ℕ) (r : Progress) → not s.dirty ≡ false
      → Acts board m (writing_out u work s.address (data_in work k)) board' work' r → Acts board m (writing_back u work k) board' work' r
  unfolding writing_back
  leave_dirty m board' work' r h x = rw (← read.is, not-false s.dirty h) x

-- zeroing it
pub emptied : (board work : List ℕ) (u : LogState) (k : ℕ) (m : Meter) (board' work' work'' : List ℕ) (r : Progress)
    → Acts board m (writing_back u work k) board' work' r → work'' ≡ set_pair work' (2 * k) 0 0 → Acts board m (emptying u work k) board' work'' r
unfolding emptying zeroed
emptied board work u k m board' work' work'' r x z = record { ran = x.ran; undo = x.undo; memory = rw (← x.memory) z }

-- filling it
pub line_filled : (board work : List ℕ) (u : LogState) (k address lines word : ℕ) (work' : List ℕ) → lines ≡ lines_at u.entries
    → word ≡ encode_slot (clean_slot address) → work' ≡ set_pair work (2 * k) word (get_or board (lines + address) 0)
    → work' ≡ filled work k address (line_in board u address)
unfolding filled line_in
line_filled board work u k address lines word work' l w z = rw (← l, ← w) z
