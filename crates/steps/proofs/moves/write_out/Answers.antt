use Rattle.steps.proofs.Moving.{written}
use Rattle.steps.proofs.moves.write_out.Goals as goal

pub returns : goal.returns
returns c = search (written)
