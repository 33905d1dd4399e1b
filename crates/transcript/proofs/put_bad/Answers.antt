use Rattle.transcript.specs.Printing.{bad_printed}
use Rattle.transcript.proofs.put_bad.Goals as goal

pub returns : goal.returns
returns c = search (bad_printed)
