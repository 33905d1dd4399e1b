use Rattle.std.proofs.Common.{rules}
use Rattle.steps.proofs.StoringHeld.{log_flush_ready, log_stored}
use Rattle.steps.proofs.log_store.Goals as goal

pub flush_if-requires : goal.flush_if-requires
flush_if-requires c = log_flush_ready _ _ _ _ _ c.requires _ _ _ c.push_entry-undo.ensures _ (search rules)

pub returns : goal.returns
returns c = search (log_stored)
