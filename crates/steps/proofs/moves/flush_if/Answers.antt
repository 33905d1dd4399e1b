use Rattle.steps.proofs.Moving.{flush_spared, flush_made}
use Rattle.steps.proofs.moves.flush_if.Goals as goal

pub returns-then-not-due : goal.returns-then-not-due
returns-then-not-due c = search (flush_spared)

pub returns : goal.returns
returns c = search (flush_made)
