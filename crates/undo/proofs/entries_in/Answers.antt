use Rattle.undo.proofs.Stretching.{entries_taken}
use Rattle.undo.proofs.entries_in.Goals as goal

pub returns : goal.returns
returns c = search (entries_taken)
