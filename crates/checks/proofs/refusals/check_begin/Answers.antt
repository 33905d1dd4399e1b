use Rattle.checks.specs.Laws.{then_refused}
use Rattle.checks.specs.Stages.{handed, staged, ready_ahead, ready_last}
use Rattle.checks.specs.Refusals.{begin_checked}
use Rattle.checks.proofs.refusals.check_begin.Goals as goal

pub check_target-requires : goal.check_target-requires
check_target-requires c = search (ready_ahead, ready_last, c.in_ok-view.ensures)

pub returns-in_err-view : goal.returns-in_err-view
unfolding begin_checked
returns-in_err-view c = handed _ _ _ c.from_residual.ensures.1 (then_refused _ _ _ c.in_err-view.ensures)

pub returns : goal.returns
unfolding begin_checked
returns c = search (staged, c.in_ok-view.ensures)
