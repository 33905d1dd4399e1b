use Rattle.checks.proofs.Testing.{waits_between}
use Rattle.checks.proofs.Registers.waits.Goals as goal

pub returns : goal.returns
returns c = search (waits_between)
