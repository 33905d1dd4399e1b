use Rattle.convert.proofs.Testing.{other_version, other_sizes, other_words, last_persisted, start_outside, length_tested}
use Rattle.convert.proofs.is_convertible.Goals as goal

pub returns-then-shape-ne-OLD_VERSION : goal.returns-then-shape-ne-OLD_VERSION
returns-then-shape-ne-OLD_VERSION c = search (other_version)

pub returns-then-not-is_good_sizes : goal.returns-then-not-is_good_sizes
returns-then-not-is_good_sizes c = search (other_sizes)

pub returns-then-given-words : goal.returns-then-given-words
returns-then-given-words c = search (other_words)

pub returns-then-control-eq-OLD_LAST_EPOCH : goal.returns-then-control-eq-OLD_LAST_EPOCH
returns-then-control-eq-OLD_LAST_EPOCH c = search (last_persisted)

pub returns-then-control-shape : goal.returns-then-control-shape
returns-then-control-shape c = search (start_outside)

pub returns : goal.returns
returns c = search (length_tested)
