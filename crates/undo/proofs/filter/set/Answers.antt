use Rattle.undo.proofs.Filtering.{bit_set}
use Rattle.undo.proofs.filter.set.Goals as goal

pub returns : goal.returns
returns c = search (bit_set)
