use Rattle.steps.proofs.StoringAbsent.{absent_log_ready, absent_stored}
use Rattle.steps.proofs.store_absent.Goals as goal

pub log_store-requires : goal.log_store-requires
log_store-requires c = search (absent_log_ready)

pub returns : goal.returns
returns c = search (absent_stored)
