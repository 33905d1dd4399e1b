use Rattle.checks.proofs.Testing.{entries_none}
use Rattle.checks.proofs.sizes.is_good_sizes.Goals as goal

pub returns-then-entries-eq0 : goal.returns-then-entries-eq0
returns-then-entries-eq0 c = search (entries_none)
