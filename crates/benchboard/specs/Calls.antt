-- Starting on a fresh board and performing a call: what each answers, and leaves on the two memories that it is lent.
use Rattle.std.specs.Prelude.{ℕ, ◌-◌, ◌^◌, ◌≡◌, cond, List}
use Rattle.board.specs.Verdict.{board_after, work_after}
use Rattle.status.specs.Numbers.{is_ok}
use Rattle.checks.specs.declared.Registers.{Registers}
use Rattle.checks.specs.Registers as registers
use Rattle.picl.specs.declared.Answer.{Answer}
use Rattle.picl.specs.declared.Report.{Report}
use Rattle.picl.specs.Answers.{Verdict, answer_of}
use Rattle.picl.specs.Calls as picl
use Rattle.records.specs.declared.Call.{Call}
use Rattle.records.specs.declared.Call.TheVariants.{Load, Store, Evict, Commit, Scan}

-- "otherwise 2^32 − 1"
abbrev pub full_allowance : ℕ
full_allowance = 2 ^ 32 - 1

-- a call of a bench program as one of the library's
abbrev pub call_of : Call → picl.Call
call_of (Load address) = picl.load address
call_of (Store address value) = picl.store address value
call_of (Evict address) = picl.evict address
call_of Commit = picl.commit
call_of Scan = picl.scan

-- what is answered, and the memories after it
pub record Left : Type 0 where
  pub answer : Answer
  pub board : List ℕ
  pub work : List ℕ

abbrev pub left : (allowance : ℕ) → (given : Registers) → (board work : List ℕ) → Verdict → Left
left allowance given board work v =
    record { answer = answer_of allowance given v; board = board_after allowance board v; work = work_after allowance work v }

-- The answer and both memories at exit.
pub record Leaves (l : Left) (board' work' : List ℕ) (a : Answer) : Type 0 where
  pub answer : a ≡ l.answer
  pub board_left : board' ≡ l.board
  pub work_left : work' ≡ l.work

-- a report as an answer: format neither takes nor returns registers, which are zero
abbrev pub reported : Report → Answer
reported r = record { status = r.status; value = r.value; stores = r.stores; registers = registers.all_zero }

-- "`n N L S` (first, once: format and power-up; its line is power-up's, or format's if that refuses)"
unfoldable pub started : (lines entries : ℕ) → (board work : List ℕ) → Left
started lines entries board work =
    let r = picl.format_report board lines entries in
    let b = picl.format_after board lines entries in
    cond (is_ok r.status) (left full_allowance registers.all_zero b work (picl.power_up_verdict b work)) (record { answer = reported r; board = b; work = work })
