use Rattle.checks.proofs.Checking.{board_short, board_lines, board_shape, board_passed}
use Rattle.checks.proofs.refusals.check_board.Goals as goal

pub returns-then-board-lt-LOG_AT : goal.returns-then-board-lt-LOG_AT
returns-then-board-lt-LOG_AT c = rw c.from.ensures (search (board_short))

pub is_good_shape-requires-clause-own_lines : goal.is_good_shape-requires-clause-own_lines
is_good_shape-requires-clause-own_lines c = search (board_lines)

pub returns-then-not-is_good_shape : goal.returns-then-not-is_good_shape
returns-then-not-is_good_shape c = rw c.from-then-not-is_good_shape.ensures (search (board_shape))

pub returns : goal.returns
returns c = search (board_passed)
