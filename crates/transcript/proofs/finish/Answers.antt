use Rattle.transcript.specs.Laws.{finish_over, finish_none, finish_line}
use Rattle.transcript.proofs.finish.Goals as goal

pub returns-then-session : goal.returns-then-session
returns-then-session c = search (finish_over)

pub returns-then-not-session : goal.returns-then-not-session
returns-then-not-session c = search (finish_none)

pub returns : goal.returns
returns c = search (finish_line)
