use Rattle.checks.specs.Laws.{work_buffer}
use Rattle.checks.specs.Stages.{handed}
use Rattle.checks.proofs.Checking.{memories_board, memories_work, memories_passed}
use Rattle.checks.proofs.refusals.check_memories.Goals as goal

pub returns-then-not-is_good_work : goal.returns-then-not-is_good_work
returns-then-not-is_good_work c = rw c.from.ensures (search (memories_work, c.in_ok-view.ensures))

pub lent-requires : goal.lent-requires
lent-requires c = search (work_buffer)

pub returns-in_err-view : goal.returns-in_err-view
returns-in_err-view c = handed _ _ _ c.from_residual.ensures.1 (memories_board _ _ _ c.in_err-view.ensures)

pub returns : goal.returns
returns c = search (memories_passed, c.in_ok-view.ensures)
