use Rattle.steps.proofs.StoringHeld.{held_again, held_tagged, held_log_ready, held_logged}
use Rattle.steps.proofs.store_held.Goals as goal

pub returns-then-not-is_entry_due : goal.returns-then-not-is_entry_due
returns-then-not-is_entry_due c = search (held_again)

pub entry_for-entry-requires-clause-tagged : goal.entry_for-entry-requires-clause-tagged
entry_for-entry-requires-clause-tagged c = search (held_tagged)

pub log_store-requires : goal.log_store-requires
log_store-requires c = search (held_log_ready)

pub returns : goal.returns
returns c = search (held_logged)
