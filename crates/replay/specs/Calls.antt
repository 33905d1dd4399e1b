-- What is asked of a board that `n` has formatted: what it answers and leaves on the two memories that it is lent.
use Rattle.std.specs.Prelude.{ℕ, List, ◌++◌, take, drop}
use Rattle.checks.specs.declared.Registers.{Registers}
use Rattle.checks.specs.Registers as registers
use Rattle.picl.specs.Calls.{verdict_of, power_up_verdict}
use Rattle.benchboard.specs.Calls.{Left, left, call_of}
use Rattle.replay.specs.declared.Request.{Request}
use Rattle.replay.specs.declared.Request.TheVariants.{Call, PowerUp}

-- "`s a value`, `l a`, `e a`, `c`, `a` (scan), `p` (volatile memory lost, then power-up)". Power-up takes no registers and reads no
-- work memory, so both are lost.
unfoldable pub requested : Request → Registers → (allowance : ℕ) → (board work : List ℕ) → Left
requested (Call c) r allowance board work = left allowance r board work (verdict_of board work r (call_of c))
requested PowerUp r allowance board work = left allowance registers.all_zero board work (power_up_verdict board work)

-- what is lent the first words of each memory: the others stay
unfoldable pub within : (board_words work_words : ℕ) → (List ℕ → List ℕ → Left) → (board work : List ℕ) → Left
within n w f board work =
    let l = f (take n board) (take w work) in
    record { answer = l.answer; board = l.board ++ drop n board; work = l.work ++ drop w work }
