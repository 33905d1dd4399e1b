-- What the code's test of a status says.
use Rattle.std.specs.Prelude.{◌≡◌, refl}
use denote.Enum.Bare.{sameb}
use Rattle.status.specs.contracts.Status.{the_type}
use Rattle.status.specs.declared.Status.{Status}
use Rattle.status.specs.declared.Status.TheVariants.{
  Ok,
  Shape,
  Work,
  Entry,
  Regs,
  Address,
  Slot,
  Buffer,
  Room,
  Waiting,
  Last,
  None,
  Cut,
  Trace,
  Filter,
  Short,
  Past,
  LogHeld,
  Target,
  Record,
  Outside,
}
use Rattle.status.specs.Numbers.{is_ok, is_cut}

-- a status is ok where the code's test says so
pub ok_same : (s : Status) → sameb the_type s Ok ≡ is_ok s
ok_same Ok = refl
ok_same Shape = refl
ok_same Work = refl
ok_same Entry = refl
ok_same Regs = refl
ok_same Address = refl
ok_same Slot = refl
ok_same Buffer = refl
ok_same Room = refl
ok_same Waiting = refl
ok_same Last = refl
ok_same None = refl
ok_same Cut = refl
ok_same Trace = refl
ok_same Filter = refl
ok_same Short = refl
ok_same Past = refl
ok_same LogHeld = refl
ok_same Target = refl
ok_same Record = refl
ok_same Outside = refl

-- and cut likewise
pub cut_same : (s : Status) → sameb the_type s Cut ≡ is_cut s
cut_same Ok = refl
cut_same Shape = refl
cut_same Work = refl
cut_same Entry = refl
cut_same Regs = refl
cut_same Address = refl
cut_same Slot = refl
cut_same Buffer = refl
cut_same Room = refl
cut_same Waiting = refl
cut_same Last = refl
cut_same None = refl
cut_same Cut = refl
cut_same Trace = refl
cut_same Filter = refl
cut_same Short = refl
cut_same Past = refl
cut_same LogHeld = refl
cut_same Target = refl
cut_same Record = refl
cut_same Outside = refl
