use Rattle.checks.specs.Laws.{then_refused}
use Rattle.checks.specs.Stages.{handed, staged, running_rows}
use Rattle.checks.specs.Refusals.{scan_checked}
use Rattle.checks.proofs.refusals.check_scan.Goals as goal

pub check_visit-requires : goal.check_visit-requires
check_visit-requires c = search (running_rows, c.in_ok-view.ensures)

pub returns-in_err-view : goal.returns-in_err-view
unfolding scan_checked
returns-in_err-view c = handed _ _ _ c.from_residual.ensures.1 (then_refused _ _ _ c.in_err-view.ensures)

pub returns : goal.returns
unfolding scan_checked
returns c = search (staged, c.in_ok-view.ensures)
