-- Making a held line dirty: the undo entry of a store, and where it goes.
use Prim.Native.Nat.{ℕ, ◌-◌, ◌*◌, ◌^◌, ◌<◌, ◌≤◌}
use mathlib.Core.Path.{◌≡◌, refl, sym, ◌∙◌}
use mathlib.Core.Bool.{Bool, true, false, not, cond}
use mathlib.Core.List.{List, ◌++◌}
use native.Mathlib.Omega.{arith}
use borrow.Author.Tests.{not-true, not-false}
use lib.Dec.{eqb}
use lib.ListN.{length, take, drop}
use Rattle.base.specs.Parts.{set_pair, rest_lent, rest_back}
use Rattle.board.specs.declared.Meter.{Meter}
use Rattle.board.specs.Laws.{ran_none}
use Rattle.layout.specs.declared.Entry.{Entry}
use Rattle.layout.specs.declared.Slot.{Slot}
use Rattle.layout.specs.Limits.{buffer_places}
use Rattle.layout.specs.Memory.{buffer_at, slot_in, data_in}
use Rattle.layout.specs.Words.{Decoded, SlotFits, encode_slot}
use Rattle.undo.specs.declared.LogState.{LogState}
use Rattle.undo.specs.declared.Progress.{Progress}
use Rattle.undo.specs.Promises.{Pushes}
use Rattle.undo.specs.Laws.{sound_counted}
use Rattle.slots.specs.Promises.{Tagged}
use Rattle.slots.specs.Slots.{dirty_slot, dirtied}
use Rattle.layout.specs.Memory.{with_buffer}
use Rattle.steps.specs.Effects.{flushing_if, entry_between, entry_for, logged, storing_held}
use Rattle.slots.specs.Slots.{entry_due}
use Rattle.steps.specs.Promises.{Acts, Logs, logging_store, LogStoreReady, Ready, StoreHeldReady}

-- the undo entry of a store
module _ (s : Slot) (epoch : ℕ) where
  module _ (persisted address : ℕ) where
    pub entry_clean : (e : Entry) → not s.dirty ≡ true → e ≡ entry_between address persisted epoch → e ≡ entry_for persisted epoch address s
    unfolding entry_for
    entry_clean e h is = is ∙ rw (not-true s.dirty h)

    pub entry_dirty : (e : Entry) → not s.dirty ≡ false → e ≡ entry_between address s.tag epoch → e ≡ entry_for persisted epoch address s
    unfolding entry_for
    entry_dirty e h is = is ∙ rw (not-false s.dirty h)

    pub tag_until : not s.dirty ≡ false → Tagged persisted epoch s → s.tag ≤ epoch
    tag_until h t = t.until (not-false s.dirty h)

pub log_done : (work : List ℕ) (u : LogState) (e : Entry) (old at : ℕ) (buffer' : List ℕ) (r : LogState) → at ≡ buffer_at (length work)
    → Pushes (take (length work - at) (drop at work)) u e old buffer' r
    → Logs work u e old
    (take at work
    ++ (buffer' ++ drop (length work - at) (drop at work)))
    r
unfolding logged with_buffer
log_done work u e old at buffer' r here x =
    record { undo = x.undo; memory = rw (rest_back at work buffer', x.memory, rest_lent at work, here) }

-- the entry and the line together
module _ (board work : List ℕ) (u : LogState) (k : ℕ) (e : Entry) (ready : LogStoreReady board work u k e) where
  module _ (old : ℕ) (work' : List ℕ) (u' : LogState) (log : Logs work u e old work' u') where
    pub log_flush_ready : (work'' : List ℕ) → length work'' ≡ length work → Ready board work'' u'
    log_flush_ready work'' l =
        rw log.undo record {
          sound = sound_counted u ready.ready.sound ready.place ready.room;
          board_words_holds = ready.ready.board_words_holds;
          work_words_holds = rw l ready.ready.work_words_holds;
        }

    pub log_stored : (value word : ℕ) (m : Meter) (work'' board' work''' : List ℕ) (r : Progress) → word ≡ encode_slot (dirty_slot e.address e.till)
        → work'' ≡ set_pair work' (2 * k) word value → Acts board m (flushing_if (eqb u'.buffered buffer_places) u' work'') board' work''' r
        → Acts board m (logging_store u work k e old value) board' work''' r
    unfolding dirtied
    log_stored value word m work'' board' work''' r dirty put x = rw (← log.memory, ← dirty, ← put) (rw log.undo at x)

-- a store to the line that slot k holds
module _ (board work : List ℕ) (u : LogState) (k address epoch value : ℕ) (m : Meter) (s : Slot) (read : Decoded SlotFits (slot_in work k) s)
    (t : Bool) (test : t ≡ entry_due epoch s) where
  pub held_tagged : StoreHeldReady board work u k address epoch → Tagged u.control.persisted epoch s
  held_tagged ready = rw read.is ready.tagged

  due : t ≡ entry_due epoch (slot_in work k)
  due = rw (← read.is) test

  pub held_again : (word : ℕ) (work' : List ℕ) → not t ≡ true → word ≡ encode_slot (dirty_slot address epoch)
      → work' ≡ set_pair work (2 * k) word value
      → Acts board m (storing_held u work k address epoch value) board work' (record { undo = u; meter = m })
  unfolding storing_held dirtied
  held_again word work' h w x = rw (← due, not-true t h, ← w) record { ran = ran_none board m; undo = refl; memory = x }

  module _ (made : not t ≡ false) (e : Entry) (entry : e ≡ entry_for u.control.persisted epoch address s) where
    pub held_log_ready : StoreHeldReady board work u k address epoch → LogStoreReady board work u k e
    unfolding entry_for
    held_log_ready ready =
        rw entry record {
          ready = ready.ready;
          within = ready.within;
          place = ready.place;
          room = ready.room (sym due ∙ not-false t made);
          fits = record { address = ready.address_fits; till = ready.window.fits; span = near s.dirty refl };
        }
      where
        near : (d : Bool) → s.dirty ≡ d → epoch - cond d s.tag u.control.persisted < 2 ^ 8
        near true d = omega (arith, ready.window, (held_tagged ready).after d)
        near false d = omega (arith, ready.window)

    pub held_logged : (board' work' : List ℕ) (r : Progress) → Acts board m (logging_store u work k e (data_in work k) value) board' work' r
        → Acts board m (storing_held u work k address epoch value) board' work' r
    unfolding storing_held entry_for
    held_logged board' work' r x = rw (← due, not-false t made, ← read.is) (rw entry at x)
