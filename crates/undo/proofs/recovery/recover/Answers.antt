use Rattle.undo.proofs.Restoring.{recover_done}
use Rattle.undo.proofs.recovery.recover.Goals as goal

pub returns : goal.returns
returns c = search (recover_done)
