use Rattle.layout.proofs.SlotTesting.{slot_form_holds}
use Rattle.layout.proofs.slot_form.Goals as goal

pub returns : goal.returns
returns c = search (slot_form_holds)
