use Rattle.slots.proofs.Finding.{due_clean, due_dirty}
use Rattle.slots.proofs.is_entry_due.Goals as goal

pub returns-then-not-slot : goal.returns-then-not-slot
returns-then-not-slot c = search (due_clean)

pub returns : goal.returns
returns c = search (due_dirty)
