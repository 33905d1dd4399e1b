use Rattle.undo.proofs.Filtering.{bit_read}
use Rattle.undo.proofs.filter.read.Goals as goal

pub returns : goal.returns
returns c = search (bit_read)
