use Rattle.base.specs.Tests.{tests}
use Rattle.capi.specs.Places.{has_answer}
use Rattle.capi.proofs.places.has_answer.Goals as goal

pub returns : goal.returns
unfolding has_answer
returns c = search tests
