use Rattle.undo.proofs.Restoring.{restore_skipped, restore_made}
use Rattle.undo.proofs.recovery.restore_entry.Goals as goal

pub returns-then-entry-persisted : goal.returns-then-entry-persisted
returns-then-entry-persisted c = rw (← c.from-entry.ensures.is) (search (restore_skipped))

pub returns : goal.returns
returns c = rw (← c.from-entry.ensures.is) (search (restore_made))
