-- What C sees of each call: the number that the function returns, and every lent array afterwards. The call itself is the
-- library's own definition; only the places of registers and answer are added here, and what is said where these are missing.
use Rattle.std.specs.Prelude.{ℕ, cond, ◌&&◌, List, ◌++◌, Result, Ok, Err, leb, eqb, length, drop}
use Rattle.status.specs.declared.Status.{Status}
use Rattle.status.specs.declared.Status.TheVariants as status
use Rattle.status.specs.Numbers.{number_of}
use Rattle.status.specs.Names.{name_of, with_name}
use Rattle.checks.specs.declared.Registers.{Registers}
use Rattle.picl.specs.declared.Report.{Report}
use Rattle.picl.specs.Answers.{Verdict, answer_of}
use Rattle.board.specs.Verdict.{board_after, work_after}
use Rattle.picl.specs.Calls.{Call, verdict_of}
use Rattle.intel_hex.specs.declared.Reader.{Reader}
use Rattle.intel_hex.specs.Import.{import_report, import_reader, import_board}
use Rattle.convert.specs.Convert.{Conversion, conversion_report, memory_after}
use Rattle.records.specs.Records.{record_bytes, written}
use Rattle.capi.specs.Places.{has_answer, has_places, has_record_places, has_reader_places, read_registers, write_registers, read_reader, write_reader, write_answer}

-- the number of a call whose registers, reader or answer have too few words, far from the paper's
abbrev pub too_short : ℕ
too_short = 255

-- how a call with registers comes back to C
pub record Crossing : Type 0 where
  pub number : ℕ
  pub board : List ℕ
  pub work : List ℕ
  pub registers : List ℕ
  pub answer : List ℕ

abbrev pub back : (number : ℕ) → (board work registers answer : List ℕ) → Crossing
back number board work registers answer =
    record { number = number; board = board; work = work; registers = registers; answer = answer }

-- what the library makes of the call; with an array too short, nothing is touched
unfoldable pub crossing : (allowance : ℕ) → (given : Registers) → Verdict → (board work registers answer : List ℕ) → Crossing
crossing allowance given v board work registers answer =
    let a = answer_of allowance given v in
    cond (has_places registers answer)
    (back (number_of a.status) (board_after allowance board v) (work_after allowance work v) (write_registers registers a.registers)
    (write_answer answer a.value a.stores))
    (back too_short board work registers answer)

-- A call that only reads leaves what C lends `const` as it was.
abbrev pub call_crossing : Call → (allowance : ℕ) → (board work registers answer : List ℕ) → Crossing
call_crossing c allowance board work registers answer =
    let r = read_registers registers in crossing allowance r (verdict_of board work r c) board work registers answer

-- format, the status question, the export (in a text; the board cannot be written) and the converter (in a second board) leave one memory and
-- no registers
pub record Reported : Type 0 where
  pub number : ℕ
  pub memory : List ℕ
  pub answer : List ℕ

abbrev pub reported : (number : ℕ) → (memory answer : List ℕ) → Reported
reported number memory answer = record { number = number; memory = memory; answer = answer }

unfoldable pub reporting : Report → (memory memory' answer : List ℕ) → Reported
reporting r memory memory' answer =
    cond (has_answer answer) (reported (number_of r.status) memory' (write_answer answer r.value r.stores)) (reported too_short memory answer)

abbrev pub conversion_crossing : Conversion → (board answer : List ℕ) → Reported
conversion_crossing v board answer = reporting (conversion_report v) board (memory_after board v) answer

-- how a record that is taken comes back to C
pub record Imported : Type 0 where
  pub number : ℕ
  pub board : List ℕ
  pub reader : List ℕ
  pub answer : List ℕ

abbrev pub imported : (number : ℕ) → (board reader answer : List ℕ) → Imported
imported number board reader answer = record { number = number; board = board; reader = reader; answer = answer }

-- "unchanged by a refusal": the reader's words are written where the record is accepted, and else stay, whichever they are
unfoldable pub reader_put : (words : List ℕ) → (number : ℕ) → Reader → List ℕ
reader_put words number left = cond (eqb number (number_of status.Ok)) (write_reader words left) words

unfoldable pub import_crossing : (board reader text answer : List ℕ) → Imported
import_crossing board reader text answer =
    let given = read_reader reader in
    let r = import_report board given text in
    cond (has_reader_places reader answer)
    (imported (number_of r.status) (import_board board given text) (reader_put reader (number_of r.status) (import_reader board given text))
    (write_answer answer r.value r.stores))
    (imported too_short board reader answer)

-- The writer of records: the first sixteen bytes, or the refusal and no byte touched. It has no value and makes no stores.
abbrev pub record_put : (bytes : List ℕ) → Result (List ℕ) Status → List ℕ
record_put bytes (Ok made) = made ++ drop record_bytes bytes
record_put bytes (Err why) = bytes

abbrev pub record_status : Result (List ℕ) Status → Status
record_status (Ok made) = status.Ok
record_status (Err why) = why

unfoldable pub record_crossing : (bytes answer : List ℕ) → (kind address value : ℕ) → Reported
record_crossing bytes answer kind address value =
    let w = written kind address value in
    cond (has_record_places bytes answer) (reported (number_of (record_status w)) (record_put bytes w) (write_answer answer 0 0))
    (reported too_short bytes answer)

-- The name of a number: its bytes at the start of the text, those behind as they were, and their count as value. A text with too few bytes
-- for the name is like an answer with too few words.
unfoldable pub name_crossing : (text answer : List ℕ) → (number : ℕ) → Reported
name_crossing text answer number =
    let name = name_of number in
    cond (has_answer answer && leb (length name) (length text)) (reported (number_of status.Ok) (with_name name text) (write_answer answer (length name) 0))
    (reported too_short text answer)
