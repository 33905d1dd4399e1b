use Rattle.base.specs.Tests.{tests}
use Rattle.capi.specs.Places.{has_answer}
use Rattle.capi.proofs.places.has_places.Goals as goal

pub returns-then-registers-lt-REGISTER_WORDS : goal.returns-then-registers-lt-REGISTER_WORDS
unfolding has_answer
returns-then-registers-lt-REGISTER_WORDS c = search tests

pub returns : goal.returns
unfolding has_answer
returns c = search tests
