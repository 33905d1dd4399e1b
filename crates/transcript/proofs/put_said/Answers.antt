use Rattle.transcript.specs.Printing.{reply_quiet, reply_said, reply_last, reply_bad}
use Rattle.transcript.proofs.put_said.Goals as goal

pub returns-in-Quiet : goal.returns-in-Quiet
returns-in-Quiet c = search (reply_quiet)

pub returns-in-Said : goal.returns-in-Said
returns-in-Said c = search (reply_said)

pub returns-in-Last : goal.returns-in-Last
returns-in-Last c = search (reply_last)

pub returns-in-Bad : goal.returns-in-Bad
returns-in-Bad c = search (reply_bad)
