use Rattle.checks.proofs.Counting.{beside_dirty, beside_other}
use Rattle.checks.proofs.Registers.is_miscounted_at.Goals as goal

pub returns-then-is_dirty_at : goal.returns-then-is_dirty_at
returns-then-is_dirty_at c = search (beside_dirty)

pub returns : goal.returns
returns c = search (beside_other)
