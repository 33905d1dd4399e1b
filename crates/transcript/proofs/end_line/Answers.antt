use Rattle.transcript.specs.Laws.{line_ended}
use Rattle.transcript.proofs.end_line.Goals as goal

pub returns : goal.returns
returns c = search (line_ended)
