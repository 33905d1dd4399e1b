-- Every list of calls that starts with a power-up has the invariant, from any board that recovers.
use Rattle.std.specs.Prelude.{ℕ, ◌<◌, List, []}
use Rattle.std.proofs.Math.Path.{refl}
use Rattle.std.proofs.Common.{sym, subst}
use Rattle.layout.specs.Limits.{most_ahead}
use Rattle.layout.specs.Memory.{control_in}
use Rattle.checks.specs.Laws.{board_opened}
use Rattle.checks.specs.Registers.{all_zero}
use Rattle.checks.specs.View.{view_of}
use Rattle.reference.specs.Machine.{Reference, resting}
use Rattle.reference.specs.Runs as runs
use Rattle.reference.specs.Runs.{run_keeps}
use Rattle.history.specs.Machine.{recall}
use Rattle.history.specs.Invariant.{Safe}
use Rattle.base.specs.Listed.{listed}
use Rattle.durable.specs.View.{Sized, durable_of}
use Rattle.refine.specs.State.{Off}
use Rattle.crash.specs.Statement.{Step, call, power_up, export_record, made, undo_boards, Both, after, run, start, AfterEveryList, persisted_on, line_on}
use Rattle.crash.specs.Beyond.{Rests}
use Rattle.crash.specs.State.{Holds, is_down}
use Rattle.crash.specs.Steps.{call_kept}
use Rattle.crash.specs.Power.{power_up_kept}
use Rattle.crash.specs.Exports.{export_same}

pub after_holds : {N L : ℕ} (s : Both) → Holds N L s.machine s.reference → (x : Step) → Holds N L (after s x).machine (after s x).reference
after_holds s h (call c k) = (call_kept h c k).holds
after_holds s h (power_up lent k) = (power_up_kept h lent k).holds
after_holds {N} {L} s h (export_record text number) = subst (λ (t : Both). Holds N L t.machine t.reference) (sym (export_same text number s)) h

pub run_holds : {N L : ℕ} (s : Both) → Holds N L s.machine s.reference → (xs : List Step)
    → Holds N L (run s xs).machine (run s xs).reference
run_holds {N} {L} = run_keeps undo_boards (λ (s : Both). Holds N L s.machine s.reference) after_holds

-- ---- a board that rests

module _ {N L : ℕ} {board : List ℕ} (r : Rests N L board) where
  rests_sized : Sized N L board
  unfolding view_of
  rests_sized =
      let o = rw r.shape at (board_opened board (view_of board []) (sym r.passes)) in
      record {
        sizes = o.good.sizes;
        words = o.good.board_words_holds;
        shape = r.shape;
        control = o.good.control;
      }

  resting_safe : Safe N most_ahead (durable_of L board) (resting (persisted_on board) (line_on L board))
  unfolding listed recall
  resting_safe = rw r.empty (record { named = refl; proper = tt; recovers = λ a. refl })

  pub rests_off : Off N L board (resting (persisted_on board) (line_on L board))
  rests_off =
      record {
        control = control_in board;
        durable = durable_of L board;
        reads = record { sized = rests_sized; control = refl; durable = refl };
        safe = resting_safe;
      }

-- ---- a list that starts with a power-up, which reads the board alone

pub list_holds : {N L : ℕ} {board : List ℕ} {g : Reference} → Off N L board g → g.persisted < g.running
    → AfterEveryList board g (λ s. Holds N L s.machine s.reference)
unfolding runs.run made
list_holds {board = board} {g} off ended work registers lent k xs =
    let before : Both = start board [] all_zero g in
    let down = is_down (record { off = off; registers = refl; emptied = λ good. refl; ended = ended }) in
    run_holds (after before (power_up lent k)) (after_holds before down (power_up lent k)) xs
