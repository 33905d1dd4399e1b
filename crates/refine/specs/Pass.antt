-- The scan's pass over the slots: how far it has come, and what holds of the slots behind it.
use Rattle.std.specs.Prelude.{ℕ, ◌+◌, ◌≤◌, ◌<◌, ◌≡◌, refl, false, ◌&&◌, List, leb, length}
use Rattle.std.proofs.Common.{sym, subst, arith}
use Rattle.layout.specs.declared.Entry.{Entry}
use Rattle.layout.specs.declared.Slot.{Slot}
use Rattle.layout.specs.Memory.{buffer_words, with_buffer, slot_in}
use Rattle.undo.specs.declared.LogState.{LogState}
use Rattle.ranges.specs.Ranges.{Waits}
use Rattle.slots.specs.declared.Bounds.{Bounds}
use Rattle.slots.specs.Slots.{dirty_slot}
use Rattle.steps.specs.Effects.{logged}
use Rattle.history.specs.Machine.{Line}
use Rattle.volatile.specs.Proper.{DirtyAfter, with_epochs}
use Rattle.volatile.specs.Slotted.{Slotted}
use Rattle.volatile.specs.Stores.{Stored}
use Rattle.volatile.specs.Swept.{SweptTo, swept_none, swept_stored, swept_with, swept_logged, swept_visited, swept_passed, clean_after}

-- where a pass is: the slot that it visits next, and the epoch that it persists at its end
pub record Sweep : Type 0 where
  pub cursor : ℕ
  pub target : ℕ

-- none
abbrev pub idle : Sweep
idle = record { cursor = 0; target = 0 }

-- with this target
abbrev pub aimed : Sweep → (target : ℕ) → Sweep
aimed at target = record { cursor = at.cursor; target = target }

-- one slot on
abbrev pub next : Sweep → Sweep
next at = record { cursor = at.cursor + 1; target = at.target }

-- "Registers are proper with target 0 and c = 0, or with P < target < s."
pub data Runs (b : Bounds) (at : Sweep) : Type 0 where
  outside : at.target ≡ 0 → at.cursor ≡ 0 → Runs b at
  inside : Waits b.persisted b.epoch at.target → Runs b at

pub record Pass (b : Bounds) (work : List ℕ) (at : Sweep) : Type 0 where
  pub within : at.cursor ≤ b.slots
  pub runs : Runs b at
  -- the slots before the cursor hold no dirty line of the epochs that the pass persists
  pub swept : SweptTo work at.cursor at.target

-- ---- outside a pass

pub pass_none : (b : Bounds) (work : List ℕ) → Pass b work idle
pass_none b work = record { within = omega arith; runs = outside refl refl; swept = swept_none work 0 }

-- no slot is behind the cursor
not_begun : (work : List ℕ) (target c : ℕ) → c ≡ 0 → SweptTo work c target
not_begun work target c e = subst (λ (n : ℕ). SweptTo work n target) (sym e) (swept_none work target)

-- a pass begins: "it visits no slot"
pub pass_begun : {b : Bounds} {work : List ℕ} {at : Sweep} → Pass b work at → at.target ≡ 0 → (target : ℕ) → Waits b.persisted b.epoch target
    → Pass b work (aimed at target)
pass_begun {b} {work} {at} pass none target waits =
    record { within = pass.within; runs = inside waits; swept = not_begun work target at.cursor (start pass.runs) }
  where
    start : Runs b at → at.cursor ≡ 0
    start (outside t c) = c
    start (inside w) = absurd (omega (arith, w.ahead))

-- ---- what leaves the pass where it is

module _ {b : Bounds} {work : List ℕ} {at : Sweep} (pass : Pass b work at) where
  -- a slot is stored to that is then clean, or empty, or of a later epoch than the target
  pub pass_stored : {k : ℕ} {s : Slot} {word : ℕ} {lines : ℕ → Line} {work' : List ℕ} → Stored b work k s word lines work'
      → DirtyAfter at.target s → Pass b work' at
  pass_stored st after =
      record { within = pass.within; runs = pass.runs; swept = swept_stored st at.cursor at.target after pass.swept }

  pub pass_cleaned : {k : ℕ} {s : Slot} {word : ℕ} {lines : ℕ → Line} {work' : List ℕ} → Stored b work k s word lines work' → s.dirty ≡ false
      → Pass b work' at
  pass_cleaned {s = s} st clean = pass_stored st (clean_after at.target s clean)

  -- a slot that was just stored to is of the running epoch, which no pass persists
  pub pass_dirtied : {k : ℕ} {lines : ℕ → Line} {word a : ℕ} {work' : List ℕ} → Stored b work k (dirty_slot a b.epoch) word lines work'
      → Pass b work' at
  pass_dirtied {work' = work'} st = go pass.runs
    where
      go : Runs b at → Pass b work' at
      go (outside t c) = record { within = pass.within; runs = pass.runs; swept = not_begun work' at.target at.cursor c }
      go (inside w) = pass_stored st (λ d. w.ended)

  pub pass_with : Slotted b work → (buffer : List ℕ) → length buffer ≡ buffer_words → Pass b (with_buffer work buffer) at
  pass_with slotted buffer words =
      record {
        within = pass.within;
        runs = pass.runs;
        swept = swept_with slotted buffer words at.cursor at.target pass.within pass.swept;
      }

  pub pass_logged : Slotted b work → (u : LogState) (e : Entry) (old : ℕ) → Pass b (logged u work e old) at
  pass_logged slotted u e old =
      record {
        within = pass.within;
        runs = pass.runs;
        swept = swept_logged slotted u e old at.cursor at.target pass.within pass.swept;
      }

  pub pass_commit : Pass (with_epochs b b.persisted (b.epoch + 1)) work at
  pass_commit = record { within = pass.within; runs = go pass.runs; swept = pass.swept }
    where
      go : Runs b at → Runs (with_epochs b b.persisted (b.epoch + 1)) at
      go (outside t c) = outside t c
      go (inside w) = inside (record { ahead = w.ahead; ended = omega (arith, w.ended) })

-- ---- a visit of the slot at the cursor

module _ {b : Bounds} {work : List ℕ} {at : Sweep} (pass : Pass b work at) (waits : Waits b.persisted b.epoch at.target) (below : at.cursor < b.slots) where
  pub pass_visited : {s : Slot} {word : ℕ} {lines : ℕ → Line} {work' : List ℕ} → Stored b work at.cursor s word lines work' → s.dirty ≡ false
      → Pass b work' (next at)
  pass_visited {s = s} st clean =
      record {
        within = omega arith;
        runs = inside waits;
        swept = swept_visited st at.target (clean_after at.target s clean) pass.swept;
      }

  pub pass_passed : (slot_in work at.cursor).dirty && leb (slot_in work at.cursor).tag at.target ≡ false → Pass b work (next at)
  pass_passed e = record { within = omega arith; runs = inside waits; swept = swept_passed work at.cursor at.target e pass.swept }
