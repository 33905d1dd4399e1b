-- What the functions on a run answer, byte by byte. That bytes in any parts leave what `Run` says of them is `parts_so_far`, in `Laws`.
use Rattle.std.specs.Prelude.{ℕ, Bool, cond, ◌&&◌, List, Option, Result, Err, nat_le}
use mathlib.Core.List.{foldl}
use Rattle.status.specs.declared.Status.{Status}
use Rattle.status.specs.declared.Status.TheVariants.{Trace}
use Rattle.checks.specs.declared.Registers.{Registers}
use Rattle.records.specs.declared.Reader.{Reader}
use Rattle.records.specs.declared.Call.{Call}
use Rattle.records.specs.Records.{record_bytes}
use Rattle.records.specs.Steps.{new_reader, is_new, is_full, step_of, reading_by}
use Rattle.trace.specs.declared.Run.{Run}
use Rattle.trace.specs.Run.{State, no_totals, turn}

-- a run between two bytes: the state between two records, and so much of the next record
pub record Machine : Type 0 where
  pub state : State
  pub reader : Reader

-- as the code has it: the two memories are lent, and the rest is one value
abbrev pub machine_of : Run → (board work : List ℕ) → Machine
machine_of r board work =
    record {
      state = record { status = r.status; registers = r.registers; totals = r.totals; board = board; work = work };
      reader = r.reader;
    }

abbrev pub run_of : Machine → Run
run_of m = record { status = m.state.status; registers = m.state.registers; totals = m.state.totals; reader = m.reader }

abbrev pub new_run : Status → Registers → Run
new_run status r = record { status = status; registers = r; totals = no_totals; reader = new_reader }

abbrev pub reading_run : Run → Reader → Run
reading_run r reader = record { status = r.status; registers = r.registers; totals = r.totals; reader = reader }

abbrev pub ended_run : Run → Status → Run
ended_run r status = record { status = status; registers = r.registers; totals = r.totals; reader = new_reader }

-- between two records
abbrev pub resting : State → Machine
resting s = record { state = s; reader = new_reader }

abbrev pub turned : Machine → Result (Option Call) Status → Machine
turned m r = resting (turn m.state r)

-- after one more byte
abbrev pub waiting : Machine → Reader → Machine
waiting m r = record { state = m.state; reader = r }

unfoldable pub stepped : Machine → (byte : ℕ) → Machine
stepped m byte =
    let r = step_of m.reader byte in
    cond (is_full r) (turned m (reading_by r)) (waiting m r)

-- whether the next bytes, so many of them, begin with a whole record
unfoldable pub has_record : Reader → (count : ℕ) → Bool
has_record r count = is_new r && nat_le record_bytes count

-- after more bytes
unfoldable pub fed : Machine → (bytes : List ℕ) → Machine
fed m bytes = foldl stepped m bytes

-- at the end of the file
abbrev pub finished : Machine → Machine
finished m = turned m (reading_by m.reader)

-- where the file can not be read on
abbrev pub broken : Machine → Machine
broken m = turned m (Err Trace)
