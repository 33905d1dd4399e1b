use Rattle.base.specs.Tests.{tests}
use Rattle.checks.proofs.refusals.check_commit_epoch.Goals as goal

pub returns-then-registers-view-eq-MOST_AHEAD : goal.returns-then-registers-view-eq-MOST_AHEAD
returns-then-registers-view-eq-MOST_AHEAD c = search tests

pub returns-then-registers-eq-LAST_EPOCH : goal.returns-then-registers-eq-LAST_EPOCH
returns-then-registers-eq-LAST_EPOCH c = search tests

pub returns : goal.returns
returns c = search tests
