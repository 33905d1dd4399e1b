use Rattle.undo.proofs.Storing.{flush_none, flush_some, flush_control}
use Rattle.undo.proofs.flush.Goals as goal

pub returns-then-progress-eq0 : goal.returns-then-progress-eq0
returns-then-progress-eq0 c = search (flush_none)

pub encode-requires : goal.encode-requires
encode-requires c = search (flush_control)

pub returns : goal.returns
returns c = search (flush_some)
