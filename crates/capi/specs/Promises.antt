-- What the functions promise that fill the arrays.
use Rattle.std.specs.Prelude.{ℕ, ◌≡◌, ◌≢◌, List}
use Rattle.status.specs.declared.Status.TheVariants as status
use Rattle.status.specs.Numbers.{number_of}
use Rattle.checks.specs.declared.Registers.{Registers}
use Rattle.checks.specs.Registers.{given}
use Rattle.picl.specs.declared.Answer.{Answer}
use Rattle.picl.specs.declared.Report.{Report}
use Rattle.capi.specs.Places.{write_registers, write_answer}

pub record Gives (registers answer : List ℕ) (a : Answer) (registers' answer' : List ℕ) (number : ℕ) : Type 0 where
  pub number_is : number ≡ number_of a.status
  pub registers_left : registers' ≡ write_registers registers a.registers
  pub answer_left : answer' ≡ write_answer answer a.value a.stores

-- s, c and the target of some registers, b and the count of dirty slots of others
abbrev pub with_pass : Registers → Registers → Registers
with_pass r left = given r.epoch left.buffered r.cursor left.dirty r.target

-- unless it was cut, a call has left s, c and the target of these registers as they were
pub record LeavesPass (r : Registers) (a : Answer) : Type 0 where
  pub same : (a.status ≢ status.Cut) → with_pass r a.registers ≡ a.registers

pub record Reports (answer : List ℕ) (r : Report) (answer' : List ℕ) (number : ℕ) : Type 0 where
  pub number_is : number ≡ number_of r.status
  pub answer_left : answer' ≡ write_answer answer r.value r.stores
