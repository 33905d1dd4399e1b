use Rattle.replay.specs.Laws.{requested_call, requested_power_up}
use Rattle.replay.proofs.run.Goals as goal

pub returns-in-Call : goal.returns-in-Call
returns-in-Call c = search (requested_call)

pub returns-in-PowerUp : goal.returns-in-PowerUp
returns-in-PowerUp c = search (requested_power_up)
