use Rattle.picl.proofs.Calling.{judged_refused}
use Rattle.picl.proofs.lines.store.Goals as goal

pub returns-in-Err : goal.returns-in-Err
returns-in-Err c = search (judged_refused, c.in-Err.ensures)
