use Rattle.replay.specs.Laws.{line_made}
use Rattle.replay.proofs.line_of.Goals as goal

pub returns : goal.returns
returns c = search (line_made)
