use Rattle.capi.specs.Places.{has_answer}
use Rattle.base.specs.Tests.{tests}
use Rattle.capi.proofs.importing.has_reader_places.Goals as goal

pub returns-then-reader-lt-READER_WORDS : goal.returns-then-reader-lt-READER_WORDS
unfolding has_answer
returns-then-reader-lt-READER_WORDS c = search tests

pub returns : goal.returns
unfolding has_answer
returns c = search tests
