use Rattle.undo.proofs.Filtering.{both_read}
use Rattle.undo.proofs.filter.is_marked.Goals as goal

pub returns : goal.returns
returns c = search (both_read)
