use Rattle.steps.proofs.Moving.{line_filled}
use Rattle.steps.proofs.moves.fill.Goals as goal

pub returns : goal.returns
returns c = search (line_filled)
