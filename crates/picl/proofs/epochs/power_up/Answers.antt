use Rattle.picl.specs.Calls.{power_up_verdict}
use Rattle.picl.proofs.Boards.{power_up_refused}
use Rattle.picl.proofs.Calling.{judged_passed}
use Rattle.picl.proofs.epochs.power_up.Goals as goal

pub power_up_passed-requires : goal.power_up_passed-requires
power_up_passed-requires c = search (c.in-Ok.ensures)

pub returns-in-Err : goal.returns-in-Err
returns-in-Err c = search (power_up_refused, c.in-Err.ensures)

pub returns-in-Ok : goal.returns-in-Ok
unfolding power_up_verdict
returns-in-Ok c = search (judged_passed, c.in-Ok.ensures)
