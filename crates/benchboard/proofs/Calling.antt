-- One law for each way out of a function.
use Prim.Native.Nat.{ℕ}
use mathlib.Core.Path.{◌≡◌, refl, sym, ap, ◌∙◌}
use mathlib.Core.Bool.{Bool, true, false, not}
use mathlib.Core.List.{List}
use borrow.Author.Tests.{not-true, not-false}
use denote.Enum.Bare.{sameb}
use Rattle.status.specs.contracts.Status.{the_type}
use Rattle.status.specs.declared.Status.TheVariants.{Ok}
use Rattle.status.specs.Numbers.{is_ok}
use Rattle.status.specs.Tests.{ok_same}
use Rattle.checks.specs.declared.Registers.{Registers}
use Rattle.checks.specs.Registers as registers
use Rattle.picl.specs.declared.Answer.{Answer}
use Rattle.picl.specs.declared.Report.{Report}
use Rattle.picl.specs.Calls.{power_up_verdict}
use Rattle.picl.specs.Promises.{Answers, Calls, Formats}
use Rattle.records.specs.declared.Call.{Call}
use Rattle.benchboard.specs.Calls.{full_allowance, call_of, started, Leaves}

-- a call by its variant
pub performed : (c d : Call) (allowance : ℕ) (r : Registers) (board work board' work' : List ℕ) (a : Answer) → c ≡ d
    → Calls (call_of d) allowance r board work board' work' a → Calls (call_of c) allowance r board work board' work' a
performed c d allowance r board work board' work' a e p = rw e p

module _ (lines entries : ℕ) (board work board' : List ℕ) (r : Report) (t : Bool) (f : Formats board lines entries board' r) (differs : t ≡ not (sameb the_type r.status Ok)) where
  is : t ≡ not (is_ok r.status)
  is = differs ∙ ap not (ok_same r.status)

  pub started_refused : (z : Registers) → t ≡ true → z ≡ registers.all_zero
      → Leaves (started lines entries board work) board' work (record { status = r.status; value = r.value; stores = r.stores; registers = z })
  unfolding started
  started_refused z h e = rw (← f.report, not-true (is_ok r.status) (sym is ∙ h)) (record { answer = rw e; board_left = f.board_left; work_left = refl })

  pub started_through : (board'' work' : List ℕ) (a : Answer) → t ≡ false
      → Answers full_allowance registers.all_zero board' work (power_up_verdict board' work) board'' work' a
      → Leaves (started lines entries board work) board'' work' a
  unfolding started
  started_through board'' work' a h p =
      rw (← f.report, not-false (is_ok r.status) (sym is ∙ h), ← f.board_left) (record { answer = p.answer; board_left = p.board_left; work_left = p.work_left })
