use Rattle.layout.proofs.SlotTesting.{slot_address}
use Rattle.layout.proofs.slot_address.Goals as goal

pub returns : goal.returns
returns c = search (slot_address)
