use Rattle.transcript.specs.Printing.{head_printed}
use Rattle.transcript.proofs.put_head.Goals as goal

pub returns : goal.returns
returns c = search (head_printed)
