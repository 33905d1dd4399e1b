use Rattle.benchboard.proofs.Calling.{started_refused, started_through}
use Rattle.benchboard.proofs.start.Goals as goal

pub returns-then-ne : goal.returns-then-ne
returns-then-ne c = search (started_refused)

pub returns : goal.returns
returns c = search (started_through)
