use Rattle.steps.proofs.Calls.{persist_ready, persist_done}
use Rattle.steps.proofs.persist.Goals as goal

pub advance-meter-requires : goal.advance-meter-requires
advance-meter-requires c = search (persist_ready)

pub returns : goal.returns
returns c = search (persist_done)
