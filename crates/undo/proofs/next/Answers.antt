use Rattle.base.specs.Tests.{tests}
use Rattle.undo.specs.Ring.{next_place}
use Rattle.undo.proofs.next.Goals as goal

pub returns-then-at-end : goal.returns-then-at-end
unfolding next_place
returns-then-at-end c = search tests

pub returns : goal.returns
unfolding next_place
returns c = search tests
