use Rattle.slots.proofs.Finding.{dirty_at_holds}
use Rattle.slots.proofs.is_dirty_at.Goals as goal

pub returns : goal.returns
returns c = search (dirty_at_holds)
