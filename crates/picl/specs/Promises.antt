-- What the calls promise, on every input.
use Rattle.std.specs.Prelude.{ℕ, ◌+◌, ◌-◌, ◌≤◌, ◌≡◌, Bool, cond, List, length, replicate}
use Rattle.board.specs.declared.Meter.{Meter}
use Rattle.board.specs.Stores.{was_cut}
use Rattle.layout.specs.Memory.{slot_at, slot_words}
use Rattle.status.specs.declared.Status.TheVariants as status
use Rattle.undo.specs.declared.Progress.{Progress}
use Rattle.slots.specs.Slots.{dirty_at}
use Rattle.checks.specs.Promises.{Countable}
use Rattle.checks.specs.declared.Registers.{Registers}
use Rattle.picl.specs.declared.Answer.{Answer}
use Rattle.picl.specs.declared.Report.{Report}
use Rattle.picl.specs.Answers.{Verdict, cut_off, answer_of}
use Rattle.board.specs.Verdict.{board_after, work_after}
use Rattle.picl.specs.Calls.{Call, verdict_of, format_report, format_after}

-- The answer and both memories at exit are what the verdict gives under the allowance.
pub record Answers (allowance : ℕ) (given : Registers) (board work : List ℕ) (v : Verdict) (board' work' : List ℕ) (a : Answer) : Type 0 where
  pub answer : a ≡ answer_of allowance given v
  pub board_left : board' ≡ board_after allowance board v
  pub work_left : work' ≡ work_after allowance work v

-- A call of a controller that runs.
abbrev pub Calls : Call → (allowance : ℕ) → (given : Registers) → (board work board' work' : List ℕ) → Answer → Type 0
Calls c allowance r board work board' work' a = Answers allowance r board work (verdict_of board work r c) board' work' a

pub record Formats (board : List ℕ) (lines entries : ℕ) (board' : List ℕ) (r : Report) : Type 0 where
  pub report : r ≡ format_report board lines entries
  pub board_left : board' ≡ format_after board lines entries

-- What the last step of a call does with the meter, and with the value and the registers that hold if the call was not cut.
pub record Finishes (work : List ℕ) (m : Meter) (allowance value : ℕ) (r : Registers) (work' : List ℕ) (a : Answer) : Type 0 where
  pub answer : a ≡ cond (was_cut m) (cut_off allowance) (record { status = status.Ok; value = value; stores = allowance + 1 - m.left; registers = r })
  pub memory : work' ≡ cond (was_cut m) (replicate (length work) 0) work

-- what the last step of a call that has worked on slot k asks
pub record FinishReady (work : List ℕ) (k : ℕ) (was : Bool) (p : Progress) (allowance : ℕ) (r : Registers) : Type 0 where
  pub within : slot_at k + slot_words ≤ length work
  pub left : p.meter.left ≤ allowance + 1
  pub count : Countable r was

-- the slot that a call visits was dirty or not, and the count may be changed by it
pub record Found (work : List ℕ) (r : Registers) (k : ℕ) (was : Bool) : Type 0 where
  pub is : was ≡ dirty_at work k
  pub count : Countable r was
