-- Tally and status question take no allowance and return no registers: their public contracts give a report. As steps
-- of demand 3 they answer what is reported, at every allowance, and change nothing.
use Rattle.std.specs.Prelude.{Ok, Err, ℕ, ◌≡◌, Bool, cond, length}
use Rattle.std.proofs.Math.Path.{refl}
use Rattle.std.proofs.Math.Bool.{true, false}
use mathlib.Core.List.{[]}
use Rattle.std.proofs.Common.{arith, le-leb}
use Rattle.std.proofs.Math.Seq.{take_all}
use Rattle.layout.specs.Memory.{filter_words, buffer_in}
use Rattle.board.specs.Stores.{Store, applied}
use Rattle.board.specs.Verdict.{refused, due, board_after, work_after}
use Rattle.status.specs.declared.Status.{Status}
use Rattle.status.specs.declared.Status.TheVariants as status
use Rattle.undo.specs.Filter.{ones_of}
use Rattle.checks.specs.declared.Registers.{Registers}
use Rattle.checks.specs.Refusals.{Checked, running_checked}
use Rattle.checks.specs.Registers.{all_zero}
use Rattle.checks.specs.View.{good_work}
use Rattle.picl.specs.declared.Report.{Report}
use Rattle.picl.specs.Answers.{answer_of}
use Rattle.picl.specs.Calls as calls
use Rattle.picl.specs.Calls.{judged, unstored, filter_bits_verdict, report_of, tally_report, filter_bits_report}
use Rattle.crash.specs.Statement.{call, Machine, Result, answered, made}

pub record Reported (m : Machine) (r : Report) (x : Result) : Type 0 where
  pub status : x.status ≡ r.status
  pub value : x.value ≡ r.value
  pub left : x.left ≡ m

module _ (m : Machine) (k : ℕ) where
  -- refused, or answered with a value and no store
  refusal_reported : (why : Status) (value : ℕ)
      → Reported m (report_of (refused why value)) (answered k m.registers m.board m.work (refused why value))
  unfolding answer_of board_after work_after
  refusal_reported why value = record { status = refl; value = refl; left = refl }

  value_reported : (value : ℕ) (r : Registers)
      → Reported m (report_of (due (unstored value r m.work)))
      (answered k m.registers m.board m.work (due (unstored value m.registers m.work)))
  unfolding answer_of board_after work_after applied
  value_reported value r =
      let none = take_all {A = Store} k [] (omega arith) in
      rw (le-leb 0 k (omega arith), none) (record { status = refl; value = refl; left = refl })

  pub tally_reported : Reported m (tally_report m.board m.work m.registers) (made m (call calls.tally k))
  unfolding made tally_report
  tally_reported = go (running_checked m.board m.work m.registers)
    where
      go : (x : Checked)
          → Reported m (report_of (judged x (λ v. unstored m.registers.dirty m.registers m.work)))
          (answered k m.registers m.board m.work (judged x (λ v. unstored m.registers.dirty m.registers m.work)))
      go (Err why) = refusal_reported why.status why.value
      go (Ok v) = value_reported m.registers.dirty m.registers

  pub filter_bits_reported : Reported m (filter_bits_report m.work) (made m (call calls.filter_bits k))
  unfolding made filter_bits_report filter_bits_verdict
  filter_bits_reported = go (good_work (length m.work))
    where
      go : (t : Bool)
          → Reported m (report_of (cond t (due (unstored (ones_of (buffer_in m.work) filter_words) all_zero m.work)) (refused status.Work 0)))
          (answered k m.registers m.board m.work
          (cond t (due (unstored (ones_of (buffer_in m.work) filter_words) m.registers m.work)) (refused status.Work 0)))
      go true = value_reported (ones_of (buffer_in m.work) filter_words) all_zero
      go false = refusal_reported status.Work 0
