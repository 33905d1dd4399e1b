use Rattle.picl.proofs.Asking.{tally_refused, tally_answered}
use Rattle.picl.proofs.memory.tally.Goals as goal

pub returns-in-Err : goal.returns-in-Err
returns-in-Err c = search (tally_refused)

pub returns-in-Ok : goal.returns-in-Ok
returns-in-Ok c = search (tally_answered)
