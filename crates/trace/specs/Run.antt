-- The run of a trace, from N, L, S and the file's bytes to the line that is printed. The request: "a bench program that runs a file of
-- the controller's calls on a fresh woken board. .. It prints one line .. : the name of what ended it (ok, trace or the refused
-- wake's), then the totals of board stores made by loads, stores, evictions and scans."
use Rattle.std.specs.Prelude.{ℕ, zero, suc, ◌+◌, ◌*◌, ◌/◌, ◌%◌, ◌^◌, cond, List, [], ◌∷◌, ◌++◌, Option, Some, None, Result, Ok, Err, length, take, drop, replicate}
use Rattle.layout.specs.Memory.{board_words, work_words}
use Rattle.status.specs.declared.Status.{Status}
use Rattle.status.specs.declared.Status.TheVariants.{Shape, Trace}
use Rattle.status.specs.Numbers.{is_ok}
use Rattle.checks.specs.declared.Registers.{Registers}
use Rattle.checks.specs.Registers as registers
use Rattle.picl.specs.Calls.{verdict_of}
use Rattle.benchboard.specs.Sizes.{bench_sized}
use Rattle.benchboard.specs.Calls.{full_allowance, call_of, Left, left, started}
use Rattle.records.specs.declared.Call.{Call}
use Rattle.records.specs.declared.Call.TheVariants.{Load, Store, Evict, Commit, Scan}
use Rattle.records.specs.Records.{record_bytes, reading}
use Rattle.text.specs.Text.{line_feed, numbers_text, name_text}
use Rattle.trace.specs.declared.Totals.{Totals}

-- a run between two records
pub record State : Type 0 where
  pub status : Status  -- what has ended it; ok as long as nothing has
  pub registers : Registers
  pub totals : Totals
  pub board : List ℕ
  pub work : List ℕ

abbrev pub no_totals : Totals
no_totals = record { loads = 0; stores = 0; evictions = 0; scans = 0 }

-- "each total is the sum modulo 2^64 of its calls' returned counts"
abbrev pub plus : (total stores : ℕ) → ℕ
plus total stores = (total + stores) % 2 ^ 64

abbrev pub counted : Totals → Call → (stores : ℕ) → Totals
counted t (Load address) n = record { loads = plus t.loads n; stores = t.stores; evictions = t.evictions; scans = t.scans }
counted t (Store address value) n = record { loads = t.loads; stores = plus t.stores n; evictions = t.evictions; scans = t.scans }
counted t (Evict address) n = record { loads = t.loads; stores = t.stores; evictions = plus t.evictions n; scans = t.scans }
counted t Commit n = t
counted t Scan n = record { loads = t.loads; stores = t.stores; evictions = t.evictions; scans = plus t.scans n }

-- a board that has powered up, or the refusal of that
abbrev pub started_state : Left → State
started_state l = record { status = l.answer.status; registers = l.answer.registers; totals = no_totals; board = l.board; work = l.work }

-- "Its arguments are N, L, S, within the replay's sizes (else shape)"
unfoldable pub begun : (lines entries slots : ℕ) → State
begun lines entries slots =
    cond (bench_sized lines entries slots)
    (started_state (started lines entries (replicate (board_words lines entries) 0) (replicate (work_words slots) 0)))
    (record { status = Shape; registers = registers.all_zero; totals = no_totals; board = []; work = [] })

-- "allowances are 2^32 − 1", "Refused calls do not end it"
abbrev pub made_call : State → Left → Call → State
made_call s l c =
    record { status = s.status; registers = l.answer.registers; totals = counted s.totals c l.answer.stores; board = l.board; work = l.work }

unfoldable pub called : State → Call → State
called s c =
    made_call s (left full_allowance s.registers s.board s.work (verdict_of s.board s.work s.registers (call_of c))) c

-- "13 trace, a record that breaks this layout or ends early, tested before its call and ending the run"
abbrev pub ended : State → Status → State
ended s status = record { status = status; registers = s.registers; totals = s.totals; board = s.board; work = s.work }

unfoldable pub taken : State → Result (Option Call) Status → State
taken s (Ok None) = s
taken s (Ok (Some c)) = called s c
taken s (Err status) = ended s status

-- once it has ended nothing more is done
unfoldable pub turn : State → Result (Option Call) Status → State
turn s r = cond (is_ok s.status) (taken s r) s

-- the file's record k: the last may end early, or have no bytes, which is the end
abbrev pub record_at : (file : List ℕ) → ℕ → List ℕ
record_at file k = take record_bytes (drop (record_bytes * k) file)

unfoldable pub after : State → (file : List ℕ) → (records : ℕ) → State
after s file zero = s
after s file (suc k) = turn (after s file k) (reading (record_at file k))

unfoldable pub ran : State → (file : List ℕ) → State
ran s file = after s file (length file / record_bytes + 1)

-- a file whose reading fails behind these bytes; "one that won't open is trace at its first record": it fails behind none
unfoldable pub failed : State → (bytes : List ℕ) → State
failed s bytes = turn (after s bytes (length bytes / record_bytes)) (Err Trace)

-- "It prints one line, single spaces"
unfoldable pub line_text : Status → Totals → List ℕ
line_text status t = name_text status ++ (numbers_text (t.loads ∷ t.stores ∷ t.evictions ∷ t.scans ∷ []) ++ (line_feed ∷ []))

abbrev pub printed : (lines entries slots : ℕ) → (file : List ℕ) → List ℕ
printed lines entries slots file = let s = ran (begun lines entries slots) file in line_text s.status s.totals
