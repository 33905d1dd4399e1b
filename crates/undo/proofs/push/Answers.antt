use Rattle.undo.proofs.Storing.{push_done}
use Rattle.undo.proofs.push.Goals as goal

pub returns : goal.returns
returns c = search (push_done)
