use Rattle.steps.proofs.Calls.{evict_none, evict_held}
use Rattle.steps.proofs.evict.Goals as goal

pub returns-then-not-spot : goal.returns-then-not-spot
returns-then-not-spot c = search (evict_none)

pub returns : goal.returns
returns c = search (evict_held)
