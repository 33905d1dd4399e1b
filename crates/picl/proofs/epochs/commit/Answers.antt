use Rattle.picl.proofs.Calling.{judged_refused, commit_within, commit_answered}
use Rattle.picl.proofs.epochs.commit.Goals as goal

pub committed-requires : goal.committed-requires
committed-requires c = search (commit_within, c.in-Ok.ensures)

pub returns-in-Err : goal.returns-in-Err
returns-in-Err c = search (judged_refused, c.in-Err.ensures)

pub returns-in-Ok : goal.returns-in-Ok
returns-in-Ok c = search (commit_answered, c.in-Ok.ensures)
