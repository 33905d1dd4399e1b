-- A bound on the board stores that a call owes, and that its answer tells of.
use Rattle.std.specs.Prelude.{ℕ, ◌≤◌, ◌≡◌, length}
use Rattle.checks.specs.declared.Registers.{Registers}
use Rattle.board.specs.Verdict.{due}
use Rattle.picl.specs.Answers.{Outcome, Verdict, answer_of}

-- A verdict owes at most n stores, and under no allowance does its answer tell of more.
pub record Bounded (n : ℕ) (v : Verdict) : Type 0 where
  pub owes : (o : Outcome) → v ≡ due o → length o.stores ≤ n
  pub tells : (allowance : ℕ) (given : Registers) → (answer_of allowance given v).stores ≤ n
