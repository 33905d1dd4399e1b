use Rattle.checks.specs.Laws.{then_refused}
use Rattle.checks.specs.Stages.{handed, staged, ready_ahead}
use Rattle.checks.specs.Refusals.{commit_checked}
use Rattle.checks.proofs.refusals.check_commit.Goals as goal

pub check_commit_epoch-requires : goal.check_commit_epoch-requires
check_commit_epoch-requires c = search (ready_ahead, c.in_ok-view.ensures)

pub returns-in_err-view : goal.returns-in_err-view
unfolding commit_checked
returns-in_err-view c = handed _ _ _ c.from_residual.ensures.1 (then_refused _ _ _ c.in_err-view.ensures)

pub returns : goal.returns
unfolding commit_checked
returns c = search (staged, c.in_ok-view.ensures)
