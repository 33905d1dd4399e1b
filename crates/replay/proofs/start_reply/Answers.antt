use Rattle.replay.specs.Laws.{reply_last, reply_said}
use Rattle.replay.proofs.start_reply.Goals as goal

pub returns-then-eq : goal.returns-then-eq
returns-then-eq c = search (reply_said)

pub returns-else-eq : goal.returns-else-eq
returns-else-eq c = search (reply_last)
