-- From what a call comes to, which does not depend on the allowance, to what it answers and leaves under one. Registers and answers may
-- be of any type.
use Rattle.std.specs.Prelude.{ℕ, cond, List, leb, length, take, replicate}
use Rattle.status.specs.declared.Status.{Status}
use Rattle.status.specs.declared.Status.TheVariants as status
use Rattle.board.specs.Stores.{Store, applied}

-- a call that goes through: the board stores that are due, in order, and what holds once all are made
pub record Outcome (R : Type 0) : Type 0 where
  pub value : ℕ
  pub registers : R
  pub work : List ℕ
  pub stores : List Store

pub data Verdict (R : Type 0) : Type 0 where
  refused : (why : Status) (value : ℕ) → Verdict R
  due : Outcome R → Verdict R

-- `make` writes an answer down. "Numbers 1 to 11 return value 0 (3 excepted), 0 stores, registers as given"; "The number of board stores
-- made is part of every answer"; "12 cut: more stores are due than the allowance": "registers are all zero, value 0, and the stores reported
-- are the allowance. An allowance just enough gives 0."
abbrev pub answering : {R A : Type 0} → (make : Status → (value stores : ℕ) → R → A) → (zero : R) → (allowance : ℕ) → (given : R) → Verdict R → A
answering make zero allowance given (refused why value) = make why value 0 given
answering make zero allowance given (due o) =
    cond (leb (length o.stores) allowance) (make status.Ok o.value (length o.stores) o.registers) (make status.Cut 0 allowance zero)

-- refused: "both memories as given"; cut: "exactly the first stores up to the allowance are on the board"
unfoldable pub board_after : {R : Type 0} → (allowance : ℕ) → (board : List ℕ) → Verdict R → List ℕ
board_after allowance board (refused why value) = board
board_after allowance board (due o) = applied board (take allowance o.stores)

-- cut: "work memory and registers are all zero"
unfoldable pub work_after : {R : Type 0} → (allowance : ℕ) → (work : List ℕ) → Verdict R → List ℕ
work_after allowance work (refused why value) = work
work_after allowance work (due o) = cond (leb (length o.stores) allowance) o.work (replicate (length work) 0)
