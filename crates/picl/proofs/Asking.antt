-- Tally and the number of filter bits, questions that change nothing: one law for each way out of a function.
use Rattle.std.specs.Prelude.{Ok, Err}
use Prim.Native.Nat.{ℕ, ◌-◌, ◌≤◌}
use mathlib.Core.Path.{◌≡◌}
use mathlib.Core.Bool.{Bool, true, false, not}
use mathlib.Core.List.{List}
use native.Mathlib.Omega.{arith}
use borrow.Author.Tests.{not-true, not-false}
use lib.ListN.{length, take, drop, length-drop}
use Rattle.base.specs.Parts.{rest_lent}
use Rattle.layout.specs.Memory.{filter_words, buffer_at, buffer_words}
use Rattle.status.specs.declared.Status.TheVariants as status
use Rattle.undo.specs.Filter.{ones_of}
use Rattle.checks.specs.declared.Refusal.{Refusal}
use Rattle.checks.specs.declared.Registers.{Registers}
use Rattle.checks.specs.declared.View.{View}
use Rattle.checks.specs.Refusals.{Checked, running_checked}
use Rattle.checks.specs.Laws.{work_buffer}
use Rattle.checks.specs.View.{good_work}
use Rattle.picl.specs.declared.Report.{Report}
use Rattle.picl.specs.Answers.{answer_of}
use Rattle.picl.specs.Calls.{report, tally_report, filter_bits_verdict, filter_bits_report}

-- the tally
module _ (board work : List ℕ) (r : Registers) (k : Checked) (is : k ≡ running_checked board work r) (a : Report) where
  pub tally_refused : (why : Refusal) → k ≡ Err why → a ≡ report why.status why.value → a ≡ tally_report board work r
  unfolding tally_report answer_of
  tally_refused why e x = rw (← is, e) x

  pub tally_answered : (v : View) → k ≡ Ok v → a ≡ report status.Ok r.dirty → a ≡ tally_report board work r
  unfolding tally_report answer_of
  tally_answered v e x = rw (← is, e) x

-- the number of filter bits
module _ (work : List ℕ) (t : Bool) (test : t ≡ good_work (length work)) (a : Report) where
  pub filter_refused : not t ≡ true → a ≡ report status.Work 0 → a ≡ filter_bits_report work
  unfolding filter_bits_report filter_bits_verdict answer_of
  filter_refused h x = rw (← test, not-true t h) x

  pub filter_counted : (at count : ℕ) → not t ≡ false → at ≡ buffer_at (length work) → count ≡ ones_of (take (length work - at) (drop at work)) filter_words
      → a ≡ report status.Ok count → a ≡ filter_bits_report work
  unfolding filter_bits_report filter_bits_verdict answer_of
  filter_counted at count good e c x = rw (← test, not-false t good) (rw (c, rest_lent at work, e) at x)

-- a good work memory has its buffer
module _ (work : List ℕ) (t : Bool) (test : t ≡ good_work (length work)) (good : not t ≡ false) where
  pub buffer_within : buffer_words ≤ length work
  buffer_within = work_buffer (length work) t test good

  pub buffer_lent : (at : ℕ) → at ≡ buffer_at (length work) → length (take (length work - at) (drop at work)) ≡ buffer_words
  buffer_lent at e = rw (rest_lent at work) (simp length-drop (omega (arith, buffer_within)))
