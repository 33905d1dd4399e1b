use Rattle.base.specs.Tests.{tests}
use Rattle.checks.proofs.refusals.check_waiting.Goals as goal

pub returns-then-registers-view : goal.returns-then-registers-view
returns-then-registers-view c = search tests

pub returns : goal.returns
returns c = search tests
