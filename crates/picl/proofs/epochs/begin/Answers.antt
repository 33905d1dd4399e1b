use Rattle.picl.proofs.Calling.{judged_refused, begin_answered}
use Rattle.picl.proofs.epochs.begin.Goals as goal

pub returns-in-Err : goal.returns-in-Err
returns-in-Err c = search (judged_refused, c.in-Err.ensures)

pub returns-in-Ok : goal.returns-in-Ok
returns-in-Ok c = search (begin_answered, c.in-Ok.ensures)
