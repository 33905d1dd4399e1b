use Rattle.undo.proofs.Stretching.{stretches_made}
use Rattle.undo.proofs.stretches.Goals as goal

pub returns : goal.returns
returns c = search (stretches_made)
