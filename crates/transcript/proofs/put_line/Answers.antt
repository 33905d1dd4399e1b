use Rattle.transcript.specs.Printing.{line_printed}
use Rattle.transcript.proofs.put_line.Goals as goal

pub returns : goal.returns
returns c = search (line_printed)
