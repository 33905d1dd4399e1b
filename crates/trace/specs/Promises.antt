-- What the functions promise.
use Rattle.std.specs.Prelude.{◌≡◌, ℕ, ◌<◌, ◌≤◌, List, length, take}
use Rattle.trace.specs.declared.Run.{Run}
use Rattle.trace.specs.Steps.{Machine, run_of, fed}

-- The run and both memories at exit.
pub record Runs (m : Machine) (board' work' : List ℕ) (r : Run) : Type 0 where
  pub run : r ≡ run_of m
  pub board_left : board' ≡ m.state.board
  pub work_left : work' ≡ m.state.work

-- The run and both memories once the first bytes have been taken: some, and no more than there are.
pub record Feeds (m : Machine) (input board' work' : List ℕ) (r : Run) (taken : ℕ) : Type 0 where
  pub some : 0 < taken
  pub most : taken ≤ length input
  pub runs : Runs (fed m (take taken input)) board' work' r
