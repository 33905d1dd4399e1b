use Rattle.base.specs.Tests.{tests}
use Rattle.checks.proofs.Registers.scan_target.Goals as goal

pub returns-then-self-eq0 : goal.returns-then-self-eq0
returns-then-self-eq0 c = search tests

pub returns : goal.returns
returns c = search tests
