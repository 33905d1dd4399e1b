use Rattle.checks.proofs.Counting.{beside_none, beside_all, beside_between}
use Rattle.checks.proofs.Registers.is_miscounted_set.Goals as goal

pub returns-then-self-eq0 : goal.returns-then-self-eq0
returns-then-self-eq0 c = search (beside_none)

pub returns-then-self-view : goal.returns-then-self-view
returns-then-self-view c = search (beside_all)

pub returns : goal.returns
returns c = search (beside_between)
