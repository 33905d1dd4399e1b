-- What is proved of demand 3's lists beyond the demand: what a running controller is answered, that P never falls, what
-- loads and exports give; and the same of every board that rests.
use Rattle.std.specs.Prelude.{Ok, ℕ, ◌+◌, ◌≤◌, ◌<◌, ◌≡◌, ◌⊎◌, true, List, [], ◌∷◌, ◌++◌, length, get_or, drop}
use Rattle.base.specs.Listed.{listed}
use Rattle.layout.specs.Limits.{filter_size}
use Rattle.layout.specs.Memory.{shape_for, slots_of, control_in, shape_in, buffer_in}
use Rattle.status.specs.declared.Status.{Status}
use Rattle.status.specs.declared.Status.TheVariants as status
use Rattle.undo.specs.Filter.{is_set}
use Rattle.undo.specs.Log.{is_bit_buffered}
use Rattle.slots.specs.Slots.{holds}
use Rattle.checks.specs.Refusals.{board_checked}
use Rattle.checks.specs.View.{view_of, good_work}
use Rattle.picl.specs.Calls as calls
use Rattle.picl.specs.Calls.{Call}
use Rattle.intel_hex.specs.Records.{records_of}
use Rattle.intel_hex.specs.Export.{most_text, export_text}
use Rattle.reference.specs.Machine.{resting}
use Rattle.crash.specs.Statement.{Step, call, power_up, export_record, made, Accepts, Both, after, AfterEveryList, persisted_on, line_on, Running, Consistent}

-- ---- a controller that runs

-- what it is answered: shape, work, registers, slots, buffer and filter are never at fault, and a call without stores
-- is not cut
abbrev pub answers_to : Call → List Status
answers_to (calls.load a) = status.Ok ∷ status.Address ∷ status.Cut ∷ []
answers_to (calls.store a v) = status.Ok ∷ status.Address ∷ status.Room ∷ status.Cut ∷ []
answers_to (calls.evict a) = status.Ok ∷ status.Address ∷ status.Cut ∷ []
answers_to calls.commit = status.Ok ∷ status.Waiting ∷ status.Last ∷ []
answers_to (calls.begin target) = status.Ok ∷ status.Target ∷ []
answers_to calls.scan = status.Ok ∷ status.None ∷ status.Cut ∷ []
answers_to calls.tally = status.Ok ∷ []
answers_to calls.filter_bits = status.Ok ∷ []

-- one of them
abbrev pub Among : List Status → Status → Type 0
Among [] s = ⊥
Among (x ∷ xs) s = (s ≡ x) ⊎ Among xs s

-- ---- the export of 7/13

-- the copy that the uncached machine has of the epoch that the control word names as persisted
abbrev pub persisted_lines : Both → ℕ → ℕ
persisted_lines s = s.reference.copies (persisted_on s.machine.board)

-- the file of its first N lines, record by record
abbrev pub persisted_records : (N : ℕ) → Both → List (List ℕ)
persisted_records N s = records_of (listed (persisted_lines s) 0 N)

-- "16 short ..; 17 past ..; 18 logheld ..; all after 1, .. and it refuses by no other": its answers on a board that
-- passes 1
abbrev pub export_answers : List Status
export_answers = status.Ok ∷ status.Short ∷ status.Past ∷ status.LogHeld ∷ []

-- ---- what holds after every list

pub record Beyond (N L : ℕ) (s : Both) : Type 0 where
  -- P never falls, whatever the step, cut or refused
  pub never_falls : (x : Step) → persisted_on s.machine.board ≤ persisted_on (after s x).machine.board
  -- "running epoch e" is s
  pub same_running : Running s → s.reference.running ≡ s.machine.registers.epoch
  -- a power-up answers 0 if its work memory passes 2 and its allowance is length + 1
  pub restarts : (lent : List ℕ) (k : ℕ) → good_work (length lent) ≡ true → (control_in s.machine.board).length + 1 ≤ k
      → Accepts s.machine (power_up lent k)
  -- "a held line gives its data. Otherwise .. from memory": the uncached machine's line
  pub loads : (a k : ℕ) → Accepts s.machine (call (calls.load a) k)
      → (made s.machine (call (calls.load a) k)).value ≡ s.reference.lines a
  -- a running controller is refused only what it asks for ..
  pub answers : Running s → (c : Call) (k : ℕ) → Among (answers_to c) (made s.machine (call c k)).status
  -- .. its work memory passes 2 ..
  pub good_work_holds : Running s → good_work (length s.machine.work) ≡ true
  -- .. "8 room" only where the log and what is buffered for it fill all L entries ..
  pub full : Running s → (a v k : ℕ) → (made s.machine (call (calls.store a v) k)).status ≡ status.Room
      → (control_in s.machine.board).length + s.machine.registers.buffered ≡ L
  -- .. and "A begin call takes a target from P + 1 to s − 1" outside a pass
  pub begins_all : Running s → (target k : ℕ) → s.machine.registers.target ≡ 0 → persisted_on s.machine.board < target
      → target < s.machine.registers.epoch → Accepts s.machine (call (calls.begin target) k)
  -- of request 3/13: the filter is exactly the bits of the buffered entries
  pub filter_exact : Running s → (i : ℕ) → i < filter_size
      → is_set (buffer_in s.machine.work) i ≡ is_bit_buffered (buffer_in s.machine.work) s.machine.registers.buffered i
  -- of request 6/13, where "a line held twice in it is improper": none is, in any two slots
  pub held_once : good_work (length s.machine.work) ≡ true → (a j k : ℕ) → j < slots_of (length s.machine.work) → k < slots_of (length s.machine.work)
      → holds s.machine.work j a ≡ true → holds s.machine.work k a ≡ true → j ≡ k
  -- request 7/13, "Export the lines of a woken board": with an empty log these are the copy of the persisted epoch,
  -- line for line ..
  pub lines_with_empty_log : (control_in s.machine.board).length ≡ 0 → (a : ℕ) → a < N → line_on L s.machine.board a ≡ persisted_lines s a
  -- .. so an accepted export gives the record of that number of this copy's file: "Success changes only the first text
  -- bytes, those of its record, and its value is their number"
  pub exports : (text : List ℕ) (number : ℕ) → Accepts s.machine (export_record text number)
      → let written = get_or (persisted_records N s) number [] in
      (export_text s.machine.board number text ≡ written ++ drop (length written) text)
      × ((made s.machine (export_record text number)).value ≡ length written)
  -- running or not, no export answers 1 ..
  pub export_answers_holds : (text : List ℕ) (number : ℕ) → Among export_answers (made s.machine (export_record text number)).status
  -- .. and it answers 0 with an empty log, 44 text bytes and the number of a record
  pub exports_all : (text : List ℕ) (number : ℕ) → (control_in s.machine.board).length ≡ 0 → most_text ≤ length text
      → number < length (persisted_records N s) → Accepts s.machine (export_record text number)

-- the demand, and what is beyond it
pub record Whole (N L : ℕ) (s : Both) : Type 0 where
  pub demand : Consistent N L s
  pub beyond : Beyond N L s

-- ---- boards that rest

-- A board of N lines and L log entries that rests: it passes 1, and the log's length is 0, at any epoch and with any
-- lines.
pub record Rests (N L : ℕ) (board : List ℕ) : Type 0 where
  pub passes : board_checked board ≡ Ok (view_of board [])
  pub shape : shape_in board ≡ shape_for N L
  pub empty : (control_in board).length ≡ 0

-- on each of them, beside an uncached machine that rests at the board's epoch, with the board's lines
abbrev pub AtRest : ((N L : ℕ) → Both → Type 0) → Type 0
AtRest Claim =
    (N L : ℕ) (board : List ℕ) → Rests N L board → AfterEveryList board (resting (persisted_on board) (line_on L board)) (Claim N L)
