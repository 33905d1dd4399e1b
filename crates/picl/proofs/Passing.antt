-- What a call's passed tests give its steps.
use Prim.Native.Nat.{ℕ, ◌+◌, ◌<◌, ◌≤◌}
use mathlib.Core.Path.{◌≡◌}
use mathlib.Core.Bool.{Bool, true}
use mathlib.Core.List.{List}
use native.Mathlib.Omega.{arith}
use lib.ListN.{length}
use Rattle.std.specs.Prelude.{Ok}
use Rattle.layout.specs.Limits.{last_epoch, most_slots}
use Rattle.layout.specs.Memory.{slot_at, slot_words}
use Rattle.undo.specs.declared.LogState.{LogState}
use Rattle.ranges.specs.Ranges.{Waits}
use Rattle.steps.specs.Promises.{Ready, SlotReady, FillReady, StoreReady, PersistReady}
use Rattle.slots.specs.Laws.{spot_below, spot_named, spot_tagged, proper_named}
use Rattle.slots.specs.Slots.{proper_at, dirty_at}
use Rattle.checks.specs.declared.Line.{Line}
use Rattle.checks.specs.declared.Registers.{Registers}
use Rattle.checks.specs.declared.View.{View}
use Rattle.checks.specs.Laws.{line_running, line_named, line_proper, line_countable, store_line, store_room}
use Rattle.checks.specs.Laws.{scan_running, scan_proper, scan_countable, scan_aims}
use Rattle.checks.specs.Promises.{Running, Countable, Sited, Roomy}
use Rattle.checks.specs.Refusals.{scan_checked}
use Rattle.checks.specs.Registers.{begun, stepped, scan_target}
use Rattle.checks.specs.View.{bounds_of, undo_of}
use Rattle.picl.specs.Promises.{Found}

ready_of : (board work : List ℕ) (r : Registers) (v : View) → Running board work r v → Ready board work (undo_of v r)
ready_of board work r v h =
    record {
      sound = omega (arith, h.proper, h.shaped.good.sizes, h.shaped.good.control);
      board_words_holds = omega (arith, h.shaped.good.board_words_holds);
      work_words_holds = omega (arith, h.shaped.work_words_holds);
    }

-- load and evict
module _ (board work : List ℕ) (r : Registers) (address : ℕ) (l : Line) (s : Sited board work r address l) where
  run : Running board work r l.view
  run = line_running board work r address l.view s.passed

  pub line_within : slot_at l.spot.slot + slot_words ≤ length work
  line_within = rw s.at (omega (arith, run.shaped.work_words_holds, spot_below work l.view.slots address run.shaped.sets.some))

  -- the slot that the call visits
  pub line_found : (was : Bool) → was ≡ dirty_at work l.spot.slot → Found work r l.spot.slot was
  line_found was e = record { is = e; count = rw (e, s.at) (line_countable board work r address l.view s.passed) }

  module _ (u : LogState) (is : u ≡ undo_of l.view r) where
    pub fill_ready : FillReady board work u l.spot.slot address
    fill_ready =
        rw (is, s.at)
        record {
          slot =
              record {
                ready = ready_of board work r l.view run;
                within = omega (arith, run.shaped.work_words_holds, spot_below work l.view.slots address run.shaped.sets.some);
                named =
                    omega (
                      arith,
                      run.shaped.good.board_words_holds,
                      spot_named (bounds_of l.view r) work address run.shaped.good.sizes.lines_some
                          (line_proper board work r address l.view s.passed),
                    );
              };
          named = omega (arith, run.shaped.good.board_words_holds, line_named board work r address l.view s.passed);
          fits = omega (arith, run.shaped.good.sizes.lines_most, line_named board work r address l.view s.passed);
        }

    pub evict_ready : SlotReady board work u l.spot.slot
    evict_ready = fill_ready.slot

-- store
module _ (board work : List ℕ) (r : Registers) (address : ℕ) (l : Line) (s : Roomy board work r address l) where
  pub store_sited : Sited board work r address l
  store_sited = record { passed = store_line board work r address l.view s.passed; at = s.at }

  pub store_ready : (u : LogState) → u ≡ undo_of l.view r → StoreReady board work u address l.spot r.epoch
  store_ready u is =
      let proper = (run board work r address l store_sited).proper in
      record {
        fill = fill_ready board work r address l store_sited u is;
        window = rw is (omega (arith, proper));
        tagged = rw (is, s.at) (spot_tagged (bounds_of l.view r) work address (line_proper board work r address l.view store_sited.passed));
        place = rw is proper.buffered;
        room = λ d. rw is (store_room board work r address l.view s.passed (rw s.at at d));
      }

-- scan
pub record ScanPassed (board work : List ℕ) (r : Registers) (v : View) : Type 0 where
  pub running : Running board work r v
  pub slot : r.cursor < v.slots → proper_at (bounds_of v r) work r.cursor ≡ true
  pub count : r.cursor < v.slots → Countable r (dirty_at work r.cursor)
  pub aims : Waits v.control.persisted r.epoch (scan_target r v.control.persisted)

pub scan_told : (board work : List ℕ) (r : Registers) (v : View) → Ok v ≡ scan_checked board work r → ScanPassed board work r v
scan_told board work r v p =
    record {
      running = scan_running board work r v p;
      slot = scan_proper board work r v p;
      count = scan_countable board work r v p;
      aims = scan_aims board work r v p;
    }

module _ (board work : List ℕ) (r : Registers) (v : View) (p : ScanPassed board work r v) where
  pub scan_persisted : v.control.persisted < last_epoch
  scan_persisted = p.running.shaped.good.control.persisted

  module _ (within : r.cursor < v.slots) where
    pub visit_within : slot_at r.cursor + slot_words ≤ length work
    visit_within = omega (arith, p.running.shaped.work_words_holds)

    pub visit_steps : (target : ℕ) (in_pass : Registers) → in_pass ≡ begun r target → in_pass.cursor ≤ most_slots
    visit_steps target in_pass b = rw b (omega (arith, p.running.shaped.sets.most))

    pub visit_found : (target : ℕ) (in_pass next : Registers) (was : Bool) → in_pass ≡ begun r target → next ≡ stepped in_pass
        → was ≡ dirty_at work r.cursor → Found work next r.cursor was
    visit_found target in_pass next was b n e =
        let count = p.count within in
        record { is = e; count = rw (n, b, e) record { least = count.least; most = count.most } }

  module _ (u : LogState) (is : u ≡ undo_of v r) where
    pub visit_ready : r.cursor < v.slots → SlotReady board work u r.cursor
    visit_ready h =
        let run = p.running in
        rw is record {
          ready = ready_of board work r v run;
          within = omega (arith, run.shaped.work_words_holds);
          named =
              omega
              (arith, run.shaped.good.board_words_holds, proper_named (bounds_of v r) work r.cursor run.shaped.good.sizes.lines_some (p.slot h));
        }

    pub persist_ready : (target : ℕ) → target ≡ scan_target r v.control.persisted → PersistReady board work u target
    persist_ready target aim =
        rw (is, aim) record { ready = ready_of board work r v p.running; fits = omega (arith, p.aims.ended, p.running.proper.epoch_most) }
