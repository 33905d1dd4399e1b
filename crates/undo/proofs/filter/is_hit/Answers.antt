use Rattle.undo.proofs.Filtering.{hit_unmarked, hit_marked}
use Rattle.undo.proofs.filter.is_hit.Goals as goal

pub returns-then-not-is_marked : goal.returns-then-not-is_marked
returns-then-not-is_marked c = search (hit_unmarked)

pub returns : goal.returns
returns c = search (hit_marked)
