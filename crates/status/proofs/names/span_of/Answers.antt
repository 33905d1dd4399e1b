use Rattle.status.proofs.Table.{span_held}
use Rattle.status.proofs.names.span_of.Goals as goal

pub returns : goal.returns
returns c = search (span_held)
