use Rattle.slots.proofs.Finding.{undo_brought, undo_held}
use Rattle.slots.proofs.is_undo_due.Goals as goal

pub returns-then-not-spot : goal.returns-then-not-spot
returns-then-not-spot c = search (undo_brought)

pub returns : goal.returns
returns c = search (undo_held)
