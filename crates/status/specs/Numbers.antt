-- "What an answer says", the column "Returned: number, name"; and "New numbers, here and later, join the names".
use Rattle.std.specs.Prelude.{ℕ, Bool, eqb}
use Rattle.status.specs.declared.Status.{Status}
use Rattle.status.specs.declared.Status.TheVariants.{
  Ok,
  Shape,
  Work,
  Entry,
  Regs,
  Address,
  Slot,
  Buffer,
  Room,
  Waiting,
  Last,
  None,
  Cut,
  Trace,
  Filter,
  Short,
  Past,
  LogHeld,
  Target,
  Record,
  Outside,
}

abbrev pub number_of : Status → ℕ
number_of Ok = 0
number_of Shape = 1
number_of Work = 2
number_of Entry = 3
number_of Regs = 4
number_of Address = 5
number_of Slot = 6
number_of Buffer = 7
number_of Room = 8
number_of Waiting = 9
number_of Last = 10
number_of None = 11
number_of Cut = 12
number_of Trace = 13
number_of Filter = 14
number_of Target = 15
number_of Short = 16
number_of Past = 17
number_of LogHeld = 18
number_of Record = 19
number_of Outside = 20

-- "0 ok"
abbrev pub is_ok : Status → Bool
is_ok s = eqb (number_of s) 0

-- "12 cut"
abbrev pub is_cut : Status → Bool
is_cut s = eqb (number_of s) 12
