use Rattle.replay.specs.Laws.{commanded, command_allow}
use Rattle.replay.specs.Bench.{performed}
use Rattle.replay.proofs.perform.Goals as goal

pub returns-in-Format : goal.returns-in-Format
unfolding performed
returns-in-Format c = search (commanded)

pub returns-in-Call : goal.returns-in-Call
unfolding performed
returns-in-Call c = search (commanded)

pub returns-in-PowerUp : goal.returns-in-PowerUp
unfolding performed
returns-in-PowerUp c = search (commanded)

pub returns-in-Allow : goal.returns-in-Allow
returns-in-Allow c = search (command_allow)
