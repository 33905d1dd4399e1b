use Rattle.layout.proofs.Testing.{unformed, formed_within}
use Rattle.layout.proofs.is_formed_word.Goals as goal

pub returns-then-word-lt-MOST_AHEAD : goal.returns-then-word-lt-MOST_AHEAD
returns-then-word-lt-MOST_AHEAD c = search (formed_within)

pub returns-else-word-lt-MOST_AHEAD : goal.returns-else-word-lt-MOST_AHEAD
returns-else-word-lt-MOST_AHEAD c = search (unformed)
