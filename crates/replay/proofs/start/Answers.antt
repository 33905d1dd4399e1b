use Rattle.replay.specs.Laws.{start_done}
use Rattle.replay.proofs.start.Goals as goal

pub returns : goal.returns
returns c = search (start_done)
