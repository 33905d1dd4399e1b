use Rattle.checks.specs.Laws.{then_refused, memories_shaped}
use Rattle.checks.specs.Stages.{handed, staged}
use Rattle.checks.specs.Refusals.{power_up_checked}
use Rattle.checks.proofs.refusals.check_power_up.Goals as goal

pub check_entries-requires : goal.check_entries-requires
check_entries-requires c = search (memories_shaped, c.in_ok-view.ensures)

pub returns-in_err-view : goal.returns-in_err-view
unfolding power_up_checked
returns-in_err-view c = handed _ _ _ c.from_residual.ensures.1 (then_refused _ _ _ c.in_err-view.ensures)

pub returns : goal.returns
unfolding power_up_checked
returns c = search (staged, c.in_ok-view.ensures)
