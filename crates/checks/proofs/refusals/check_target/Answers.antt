use Rattle.checks.proofs.Rows.{target_inside, target_refused, target_passed}
use Rattle.checks.proofs.refusals.check_target.Goals as goal

pub returns-then-registers-ne0 : goal.returns-then-registers-ne0
returns-then-registers-ne0 c = rw c.from.ensures (search (target_inside))

pub returns-then-not-waits : goal.returns-then-not-waits
returns-then-not-waits c = rw c.from-then-not-waits.ensures (search (target_refused))

pub returns : goal.returns
returns c = search (target_passed)
