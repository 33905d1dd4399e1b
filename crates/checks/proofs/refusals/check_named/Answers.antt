use Rattle.checks.specs.Laws.{then_refused}
use Rattle.checks.specs.Stages.{handed, staged}
use Rattle.checks.specs.Refusals.{named_checked}
use Rattle.checks.proofs.refusals.check_named.Goals as goal

pub returns-in_err-view : goal.returns-in_err-view
unfolding named_checked
returns-in_err-view c = handed _ _ _ c.from_residual.ensures.1 (then_refused _ _ _ c.in_err-view.ensures)

pub returns : goal.returns
unfolding named_checked
returns c = search (staged, c.in_ok-view.ensures)
