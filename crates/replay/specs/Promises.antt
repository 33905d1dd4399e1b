-- What the functions promise, and what the memories are that they are lent.
use Rattle.std.specs.Prelude.{ℕ, ◌≤◌, ◌≡◌, List, Option, IfSome, length}
use Rattle.benchboard.specs.Sizes.{bench_board, bench_work}
use Rattle.replay.specs.declared.Bench.{Bench}
use Rattle.replay.specs.declared.Step.{Step}
use Rattle.replay.specs.Bench.{Effect}

pub record Performs (e : Effect) (board' work' : List ℕ) (s : Step) : Type 0 where
  pub step : s ≡ e.step
  pub board_left : board' ≡ e.board
  pub work_left : work' ≡ e.work

-- The sizes of a bench lie within its memories.
pub record Sized (b : Bench) : Type 0 where
  pub board : b.board ≤ bench_board
  pub work : b.work ≤ bench_work

-- The memories that a bench is lent.
pub record Lent (b : Option Bench) (board work : List ℕ) : Type 0 where
  pub sized : IfSome b Sized
  pub board_length : bench_board ≤ length board
  pub work_length : bench_work ≤ length work
