-- What a verdict of this library's calls answers under an allowance.
use Rattle.std.specs.Prelude.{ℕ, length}
use Rattle.board.specs.Verdict as verdict
use Rattle.board.specs.Verdict.{answering}
use Rattle.checks.specs.declared.Registers.{Registers}
use Rattle.checks.specs.Registers.{all_zero}
use Rattle.status.specs.declared.Status.{Status}
use Rattle.status.specs.declared.Status.TheVariants as status
use Rattle.picl.specs.declared.Answer.{Answer}

abbrev pub Outcome : Type 0
Outcome = verdict.Outcome Registers

abbrev pub Verdict : Type 0
Verdict = verdict.Verdict Registers

abbrev pub answer : Status → (value stores : ℕ) → Registers → Answer
answer why value stores r = record { status = why; value = value; stores = stores; registers = r }

unfoldable pub answer_of : (allowance : ℕ) → (given : Registers) → Verdict → Answer
answer_of allowance given v = answering answer all_zero allowance given v

-- its three kinds
abbrev pub refusal : Status → (value : ℕ) → (given : Registers) → Answer
refusal why value given = answer why value 0 given

abbrev pub success : Outcome → Answer
success o = answer status.Ok o.value (length o.stores) o.registers

abbrev pub cut_off : (allowance : ℕ) → Answer
cut_off allowance = answer status.Cut 0 allowance all_zero
