use Rattle.checks.proofs.Testing.{read_view}
use Rattle.checks.proofs.View.read.Goals as goal

pub returns : goal.returns
returns c = search (read_view)
