-- "Export the lines of a woken board one record a call, by record number from 0": when it is refused, what it reports, and the text that it
-- leaves.
use Rattle.std.specs.Prelude.{Ok, Err, ◌≡◌, ℕ, not, List, [], ◌∷◌, ◌++◌, length, drop, ◌==◌, nat_le, nat_lt, slice_index_or}
use Rattle.layout.specs.Memory.{lines_at, shape_in}
use Rattle.status.specs.declared.Status.TheVariants as status
use Rattle.checks.specs.declared.View.{View}
use Rattle.checks.specs.Refusals.{Checked, Row, row, then, board_checked}
use Rattle.picl.specs.declared.Report.{Report}
use Rattle.picl.specs.Calls.{report}
use Rattle.intel_hex.specs.Records.{records_of}

-- "the lines of a .. board": the last of its words
abbrev pub lines_on : (board : List ℕ) → List ℕ
lines_on board = drop (lines_at (shape_in board).entries) board

-- "one record a call, by record number from 0"
unfoldable pub record_at : (board : List ℕ) (number : ℕ) → List ℕ
record_at board number = slice_index_or (records_of (lines_on board)) number []

abbrev pub most_text : ℕ
most_text = 44

-- "16 short, fewer than 44 text bytes; 17 past, no record of that number; 18 logheld, log length not 0; all after 1, in this order, and it
-- refuses by no other"
abbrev pub export_rows : (board : List ℕ) (text_bytes number : ℕ) → View → List Row
export_rows board text_bytes number v =
    row (nat_lt text_bytes most_text) status.Short
    ∷ row (nat_le (length (records_of (lines_on board))) number) status.Past
    ∷ row (not (v.control.length == 0)) status.LogHeld
    ∷ []

unfoldable pub export_checked : (board : List ℕ) (text_bytes number : ℕ) → Checked
export_checked board text_bytes number = then (board_checked board) (export_rows board text_bytes number)

-- "Success changes only the first text bytes, those of its record, and its value is their number; a refusal changes none."
abbrev pub report_for : Checked → (written : List ℕ) → Report
report_for (Err why) written = report why.status why.value
report_for (Ok v) written = report status.Ok (length written)

abbrev pub text_for : Checked → (written text : List ℕ) → List ℕ
text_for (Err why) written text = text
text_for (Ok v) written text = written ++ drop (length written) text

unfoldable pub export_report : (board : List ℕ) (number : ℕ) (text : List ℕ) → Report
export_report board number text = report_for (export_checked board (length text) number) (record_at board number)

unfoldable pub export_text : (board : List ℕ) (number : ℕ) (text : List ℕ) → List ℕ
export_text board number text = text_for (export_checked board (length text) number) (record_at board number) text

-- what the call promises, on every board, record number and text
pub record Exports (board : List ℕ) (number : ℕ) (text text' : List ℕ) (r : Report) : Type 0 where
  pub report : r ≡ export_report board number text
  pub text_left : text' ≡ export_text board number text
