use Rattle.trace.specs.Line.{line_printed}
use Rattle.trace.proofs.put_run.Goals as goal

pub returns : goal.returns
returns c = search (line_printed)
