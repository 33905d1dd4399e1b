use Rattle.checks.proofs.Testing.{view_lent}
use Rattle.checks.proofs.View.lent.Goals as goal

pub returns : goal.returns
returns c = search (view_lent)
