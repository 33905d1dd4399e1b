-- Power-up and format: one law for each way out of a function.
use Rattle.std.specs.Prelude.{Ok, Err}
use Prim.Native.Nat.{ℕ, ◌+◌, ◌<◌, ◌≤◌}
use mathlib.Core.Path.{◌≡◌, refl, sym, ap, ◌∙◌}
use mathlib.Core.Bool.{Bool, true, false, not}
use mathlib.Core.List.{List}
use native.Mathlib.Omega.{arith}
use borrow.Author.Tests.{not-true, not-false}
use lib.ListN.{length, set, replicate, length-replicate}
use Rattle.base.specs.Walk.{first_all}
use Rattle.board.specs.declared.Meter.{Meter}
use Rattle.board.specs.Stores.{full, Ran}
use Rattle.board.specs.Outcome.{ran_within}
use Rattle.board.specs.Verdict.{due}
use Rattle.layout.specs.Limits.{last_epoch}
use Rattle.layout.specs.Memory.{shape_at, board_words, formatted, shape_for}
use Rattle.layout.specs.Words.{ShapeFits, encode_shape}
use Rattle.status.specs.declared.Status.TheVariants as status
use Rattle.undo.specs.declared.LogState.{LogState}
use Rattle.undo.specs.Promises.{RecoverReady}
use Rattle.undo.specs.Log.{log_in, recover_stores}
use Rattle.undo.specs.Recovery.{first_improper, proper_at}
use Rattle.checks.specs.declared.Refusal.{Refusal}
use Rattle.checks.specs.declared.Registers.{Registers}
use Rattle.checks.specs.declared.View.{View}
use Rattle.checks.specs.Promises.{Shaped}
use Rattle.checks.specs.Laws.{sizes_told, words_told, entries_shaped, entries_proper}
use Rattle.checks.specs.Refusals.{power_up_checked}
use Rattle.checks.specs.Registers as registers
use Rattle.checks.specs.View.{good_sizes, undo_of}
use Rattle.picl.specs.declared.Answer.{Answer}
use Rattle.picl.specs.declared.Report.{Report}
use Rattle.picl.specs.Answers.{refusal}
use Rattle.picl.specs.Calls.{power_up_outcome, power_up_verdict, report, format_report, format_after}
use Rattle.picl.specs.Promises.{Answers, Formats, Finishes}
use Rattle.picl.proofs.Finishing.{answers_due}
use Rattle.picl.proofs.Calling.{judged_refused}

-- power-up
module _ (board work : List ℕ) (v : View) (passed : Ok v ≡ power_up_checked board work) where
  shaped : Shaped board work v
  shaped = entries_shaped board work v passed

  pub recovered_epoch : v.control.persisted < last_epoch
  recovered_epoch = shaped.good.control.persisted

  pub recover_ready : (u : LogState) → u ≡ undo_of v registers.all_zero → RecoverReady board u v.shape.lines
  unfolding first_improper
  recover_ready u is =
      rw is
      record {
        sound = omega (arith, shaped.good.sizes, shaped.good.control);
        board_words_holds = omega (arith, shaped.good.board_words_holds);
        proper =
            first_all (proper_at (log_in board (undo_of v registers.all_zero)) v.shape.lines) v.control.length (entries_proper board work v passed);
      }

module _ (allowance : ℕ) (board board' : List ℕ) (u : LogState) (m m' : Meter) (new : m ≡ full allowance)
    (ran : Ran board m (recover_stores board u) board' m') where
  pub recovered_within : m'.left ≤ allowance + 1
  recovered_within = ran_within allowance (recover_stores board u) (rw new at ran)

  pub recovered_answered : (work work' work'' : List ℕ) (v : View) (r : Registers) (a : Answer) → u ≡ undo_of v registers.all_zero
      → work' ≡ replicate (length work) 0 → r ≡ registers.restarted v.control.persisted → Finishes work' m' allowance 0 r work'' a
      → Answers allowance registers.all_zero board work (due (power_up_outcome board work v)) board' work'' a
  unfolding power_up_outcome
  recovered_answered work work' work'' v r a is z e f =
      answers_due allowance registers.all_zero board work (power_up_outcome board work v) m' board' work' work'' 0 r a (rw (new, is) at ran)
      (ap length z ∙ length-replicate (length work) 0) (λ h. z) (λ h. refl) (λ h. e) f

-- a power-up that is refused leaves registers zero
pub power_up_refused : (allowance : ℕ) (board work : List ℕ) (why : Refusal) (z : Registers) (a : Answer)
    → Err why ≡ power_up_checked board work → z ≡ registers.all_zero → a ≡ refusal why.status why.value z
    → Answers allowance registers.all_zero board work (power_up_verdict board work) board work a
unfolding power_up_verdict
power_up_refused allowance board work why z a e n x =
    judged_refused allowance board work registers.all_zero (power_up_checked board work) (power_up_outcome board work) why a e
    (rw n at x)

-- format
module _ (board : List ℕ) (lines entries : ℕ) (t : Bool) (test : t ≡ good_sizes (length board) lines entries) where
  pub format_refused : (r : Report) → not t ≡ true → r ≡ report status.Shape 0 → Formats board lines entries board r
  unfolding format_report format_after
  format_refused r h x = record { report = rw (← test, not-true t h) x; board_left = rw (← test, not-true t h) }

  module _ (good : not t ≡ false) where
    sizes : good_sizes (length board) lines entries ≡ true
    sizes = sym test ∙ not-false t good

    pub format_fits : ShapeFits (shape_for lines entries)
    format_fits = omega (arith, sizes_told (length board) lines entries sizes)

    pub format_within : (board' : List ℕ) → length board' ≡ length board → shape_at < length board'
    format_within board' l = omega (arith, words_told (length board) lines entries sizes)

    pub format_made : (r : Report) (board' : List ℕ) (w : ℕ) → board' ≡ replicate (length board) 0 → w ≡ encode_shape (shape_for lines entries)
        → r ≡ report status.Ok 0 → Formats board lines entries (set board' shape_at w) r
    unfolding format_report format_after formatted
    format_made r board' w z e x =
        record { report = rw (← test, not-false t good) x; board_left = rw (← test, not-false t good, z, e, words) }
      where
        words : length board ≡ board_words lines entries
        words = words_told (length board) lines entries sizes
