use Rattle.steps.proofs.StoringHeld.{log_done}
use Rattle.steps.proofs.push_entry.Goals as goal

pub returns : goal.returns
returns c = search (log_done)
