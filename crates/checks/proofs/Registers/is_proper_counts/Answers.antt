use Rattle.base.specs.Tests.{tests}
use Rattle.checks.specs.View.{proper_counts}
use Rattle.checks.proofs.Registers.is_proper_counts.Goals as goal

pub returns-then-self : goal.returns-then-self
unfolding proper_counts
returns-then-self c = search tests

pub returns-then-self-view : goal.returns-then-self-view
unfolding proper_counts
returns-then-self-view c = search tests

pub returns : goal.returns
unfolding proper_counts
returns c = search tests
