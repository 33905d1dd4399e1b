use Rattle.slots.proofs.Sites.{lowest_is}
use Rattle.slots.proofs.sets.lowest.Goals as goal

pub returns : goal.returns
returns c = search (lowest_is)
