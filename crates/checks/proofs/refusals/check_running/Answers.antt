use Rattle.checks.specs.Laws.{then_refused}
use Rattle.checks.specs.Stages.{handed, staged, memories_fits}
use Rattle.checks.specs.Refusals.{running_checked}
use Rattle.checks.proofs.refusals.check_running.Goals as goal

pub check_registers-requires : goal.check_registers-requires
check_registers-requires c = search (memories_fits, c.in_ok-view.ensures)

pub returns-in_err-view : goal.returns-in_err-view
unfolding running_checked
returns-in_err-view c = handed _ _ _ c.from_residual.ensures.1 (then_refused _ _ _ c.in_err-view.ensures)

pub returns : goal.returns
unfolding running_checked
returns c = search (staged, c.in_ok-view.ensures)
