use Rattle.steps.proofs.StoringHeld.{entry_clean, entry_dirty, tag_until}
use Rattle.steps.proofs.entry_for.Goals as goal

pub returns-then-not-slot : goal.returns-then-not-slot
returns-then-not-slot c = search (entry_clean)

pub entry_between-requires-2 : goal.entry_between-requires-2
entry_between-requires-2 c = search (tag_until)

pub returns : goal.returns
returns c = search (entry_dirty)
