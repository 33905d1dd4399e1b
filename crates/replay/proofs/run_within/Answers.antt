use Rattle.replay.specs.Laws.{ran_within}
use Rattle.replay.proofs.run_within.Goals as goal

pub returns : goal.returns
returns c = search (ran_within)
