use Rattle.layout.proofs.Testing.{span_far, span_near}
use Rattle.layout.proofs.Entry.is_formed.Goals as goal

pub returns-then-self-lt-MOST_AHEAD : goal.returns-then-self-lt-MOST_AHEAD
returns-then-self-lt-MOST_AHEAD c = search (span_near)

pub returns-else-self-lt-MOST_AHEAD : goal.returns-else-self-lt-MOST_AHEAD
returns-else-self-lt-MOST_AHEAD c = search (span_far)
