use Rattle.undo.proofs.Filtering.{both_set}
use Rattle.undo.proofs.filter.mark.Goals as goal

pub returns : goal.returns
returns c = search (both_set)
