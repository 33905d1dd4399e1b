use Rattle.steps.proofs.Calls.{load_held, load_brought}
use Rattle.steps.proofs.load.Goals as goal

pub returns-then-spot : goal.returns-then-spot
returns-then-spot c = search (load_held)

pub returns : goal.returns
returns c = search (load_brought)
