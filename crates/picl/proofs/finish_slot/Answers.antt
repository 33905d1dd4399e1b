use Rattle.picl.proofs.Finishing.{finish_slot}
use Rattle.picl.proofs.finish_slot.Goals as goal

pub returns : goal.returns
returns c = search (finish_slot)
