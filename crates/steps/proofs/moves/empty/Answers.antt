use Rattle.steps.proofs.Moving.{emptied}
use Rattle.steps.proofs.moves.empty.Goals as goal

pub returns : goal.returns
returns c = search (emptied)
