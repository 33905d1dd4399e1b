-- One law for each way out of a call: an array too short, and the library's answer brought to its places.
use Rattle.std.specs.Prelude.{Ok, Err}
use Prim.Native.Nat.{ℕ, ◌<◌, ◌≤◌}
use native.Mathlib.Omega.{arith}
use mathlib.Core.Path.{◌≡◌, refl, sym, ◌∙◌}
use mathlib.Core.Bool.{Bool, true, false, not}
use mathlib.Core.List.{List, [], ◌∷◌}
use borrow.Author.Tests.{leb-true, not-true, not-false}
use lib.Dec.{leb}
use lib.ListN.{length, set, length-set}
use Rattle.base.specs.Tests.{and_left, and_right}
use Rattle.checks.specs.declared.Registers.{Registers}
use Rattle.picl.specs.declared.Answer.{Answer}
use Rattle.picl.specs.declared.Report.{Report}
use Rattle.board.specs.Stores.{applied}
use Rattle.board.specs.Verdict.{board_after, work_after}
use Rattle.checks.specs.Refusals.{Checked, running_checked}
use Rattle.picl.specs.Answers.{Verdict, answer_of}
use Rattle.picl.specs.Calls as call
use Rattle.picl.specs.Calls.{verdict_of, no_allowance, judged, unstored, format_report, format_after, report_of, tally_report}
use Rattle.picl.specs.Promises.{Answers, Calls, Formats}
use Rattle.convert.specs.Convert.{Conversion, conversion_report, memory_after, Converts}
use Rattle.intel_hex.specs.Export.{export_report, export_text, Exports}
use Rattle.capi.specs.Places.{epoch_at, buffered_at, cursor_at, dirty_at, register_words, answer_words, has_answer, has_both, has_places, read_registers, write_registers}
use Rattle.capi.specs.Promises.{Gives, Reports}
use Rattle.capi.specs.Crossing.{too_short, back, crossing, call_crossing}
use Rattle.capi.specs.Crossing.{reported, reporting, conversion_crossing}

-- each register has its place when those before it are written
module _ (registers : List ℕ) (epoch : ℕ) (lent : register_words ≤ length registers) where
  pub buffered_within : buffered_at < length (set registers epoch_at epoch)
  buffered_within = rw (length-set registers epoch_at epoch) (omega arith)

  module _ (buffered : ℕ) where
    abbrev two : List ℕ
    two = set (set registers epoch_at epoch) buffered_at buffered

    two_kept : length two ≡ length registers
    two_kept = length-set (set registers epoch_at epoch) buffered_at buffered ∙ length-set registers epoch_at epoch

    pub cursor_within : cursor_at < length two
    cursor_within = rw two_kept (omega arith)

    pub dirty_within : (cursor : ℕ) → dirty_at < length (set two cursor_at cursor)
    dirty_within cursor = rw (length-set two cursor_at cursor, two_kept) (omega arith)

pub answer_only : (answer : List ℕ) → has_answer answer ≡ true → answer_words ≤ length answer
unfolding has_answer
answer_only answer e = leb-true answer_words (length answer) e

module _ (least : ℕ) (lent answer : List ℕ) where
  pub array_lent : has_both least lent answer ≡ true → least ≤ length lent
  array_lent e = leb-true least (length lent) (and_left (leb least (length lent)) (has_answer answer) e)

  pub answer_lent : has_both least lent answer ≡ true → answer_words ≤ length answer
  answer_lent e = answer_only answer (and_right (leb least (length lent)) (has_answer answer) e)

  -- the same after the test that the calls make
  module _ (t : Bool) (is : t ≡ has_both least lent answer) (e : not t ≡ false) where
    pub both_tested : has_both least lent answer ≡ true
    both_tested = sym is ∙ not-false t e

    pub array_tested : least ≤ length lent
    array_tested = array_lent both_tested

    pub answer_behind : has_answer answer ≡ true
    answer_behind = and_right (leb least (length lent)) (has_answer answer) both_tested

pub answer_tested : (answer : List ℕ) (t : Bool) → t ≡ has_answer answer → not t ≡ false → has_answer answer ≡ true
answer_tested answer t is e = sym is ∙ not-false t e

module _ (allowance : ℕ) (given : Registers) (v : Verdict) (board work registers answer : List ℕ) (t : Bool) (is : t ≡ has_places registers answer) where
  pub crossing_short : not t ≡ true → back too_short board work registers answer ≡ crossing allowance given v board work registers answer
  unfolding crossing
  crossing_short e = let p = sym is ∙ not-true t e in rw p

  pub crossing_made : (board' work' registers' answer' : List ℕ) (a : Answer) (number : ℕ) → not t ≡ false
      → Answers allowance given board work v board' work' a → Gives registers answer a registers' answer' number
      → back number board' work' registers' answer' ≡ crossing allowance given v board work registers answer
  unfolding crossing
  crossing_made board' work' registers' answer' a number e x g =
      let p = sym is ∙ not-false t e in
      rw (p, g.number_is, g.registers_left, g.answer_left, x.answer, x.board_left, x.work_left)

module _ (r : Report) (memory memory' answer : List ℕ) (t : Bool) (is : t ≡ has_answer answer) where
  pub reporting_short : not t ≡ true → reported too_short memory answer ≡ reporting r memory memory' answer
  unfolding reporting
  reporting_short e = let p = sym is ∙ not-true t e in rw p

  reporting_made : (given : Report) (left answer' : List ℕ) (number : ℕ) → not t ≡ false → given ≡ r → left ≡ memory'
      → Reports answer given answer' number → reported number left answer' ≡ reporting r memory memory' answer
  unfolding reporting
  reporting_made given left answer' number e same kept g =
      let p = sym is ∙ not-false t e in rw (p, g.number_is, g.answer_left, same, kept)

module _ (answer answer' : List ℕ) (t : Bool) (is : t ≡ has_answer answer) (lent : not t ≡ false) (given : Report) (number : ℕ)
    (gave : Reports answer given answer' number) where
  pub format_made : (board board' : List ℕ) (lines entries : ℕ) → Formats board lines entries board' given
      → reported number board' answer' ≡ reporting (format_report board lines entries) board (format_after board lines entries) answer
  format_made board board' lines entries x =
      reporting_made (format_report board lines entries) board (format_after board lines entries) answer t is given board' answer' number lent
      x.report x.board_left gave

  -- a record of a board's file
  pub hex_made : (board text text' : List ℕ) (k : ℕ) → Exports board k text text' given
      → reported number text' answer' ≡ reporting (export_report board k text) text (export_text board k text) answer
  hex_made board text text' k x =
      reporting_made (export_report board k text) text (export_text board k text) answer t is given text' answer' number lent
      x.report x.text_left gave

  -- a board in today's layout
  pub convert_made : (board board' : List ℕ) (v : Conversion) → Converts board v board' given → reported number board' answer' ≡ conversion_crossing v board answer
  convert_made board board' v x =
      reporting_made (conversion_report v) board (memory_after board v) answer t is given board' answer' number lent x.answer x.memory gave

  -- the number of filter bits
  pub asked_made : (work : List ℕ) (told : Report) → given ≡ told → reported number work answer' ≡ reporting told work work answer
  asked_made work told x = reporting_made told work work answer t is given work answer' number lent x refl gave

-- the tally: it leaves both memories and the registers as they were
written_again : (words : List ℕ) → register_words ≤ length words → write_registers words (read_registers words) ≡ words
unfolding read_registers
written_again [] h = absurd (omega arith)
written_again (a ∷ []) h = absurd (omega arith)
written_again (a ∷ b ∷ []) h = absurd (omega arith)
written_again (a ∷ b ∷ c ∷ []) h = absurd (omega arith)
written_again (a ∷ b ∷ c ∷ d ∷ []) h = absurd (omega arith)
written_again (a ∷ b ∷ c ∷ d ∷ e ∷ rest) h = refl

tally_answers : (board work : List ℕ) (r : Registers)
    → let v = verdict_of board work r call.tally in
    ((answer_of no_allowance r v).registers ≡ r) × (board_after no_allowance board v ≡ board) × (work_after no_allowance work v ≡ work)
unfolding answer_of board_after work_after applied
tally_answers board work r = go (running_checked board work r)
  where
    go : (k : Checked)
        → let v = judged k (λ w. unstored r.dirty r work) in
        ((answer_of no_allowance r v).registers ≡ r) × (board_after no_allowance board v ≡ board) × (work_after no_allowance work v ≡ work)
    go (Err why) = (refl, refl, refl)
    go (Ok w) = (refl, refl, refl)

tally_reports : (board work : List ℕ) (r : Registers)
    → let a = answer_of no_allowance r (verdict_of board work r call.tally) in
    tally_report board work r ≡ record { status = a.status; value = a.value; stores = a.stores }
unfolding tally_report answer_of
tally_reports board work r = go (running_checked board work r)
  where
    go : (k : Checked)
        → let a = answer_of no_allowance r (judged k (λ w. unstored r.dirty r work)) in
        report_of (judged k (λ w. unstored r.dirty r work)) ≡ record { status = a.status; value = a.value; stores = a.stores }
    go (Err why) = refl
    go (Ok w) = refl

module _ (board work registers answer : List ℕ) (t : Bool) (is : t ≡ has_places registers answer) where
  -- a call on registers that are read from their places
  pub call_made : (c : call.Call) (allowance : ℕ) (r : Registers) (board' work' registers' answer' : List ℕ) (a : Answer) (number : ℕ) → not t ≡ false
      → r ≡ read_registers registers → Calls c allowance r board work board' work' a → Gives registers answer a registers' answer' number
      → back number board' work' registers' answer' ≡ call_crossing c allowance board work registers answer
  call_made c allowance r board' work' registers' answer' a number e read x =
      crossing_made allowance (read_registers registers) (verdict_of board work (read_registers registers) c) board work registers answer t is
      board' work' registers' answer' a number e (rw read at x)

  pub tally_made : (r : Registers) (given : Report) (answer' : List ℕ) (number : ℕ) → not t ≡ false → r ≡ read_registers registers
      → given ≡ tally_report board work r
      → Reports answer given answer' number → back number board work registers answer' ≡ call_crossing call.tally no_allowance board work registers answer
  unfolding crossing
  tally_made given_registers given answer' number e read told_as g =
      let p = sym is ∙ not-false t e in
      let r = read_registers registers in
      let x = rw read at told_as in
      let kept = tally_answers board work r in
      let told = x ∙ tally_reports board work r in
      rw (p, g.number_is, g.answer_left, told, kept.0, kept.1, kept.2, written_again registers (array_lent register_words registers answer p))
