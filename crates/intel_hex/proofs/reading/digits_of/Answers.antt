use Rattle.intel_hex.proofs.TextReading.{one_done, two_done}
use Rattle.intel_hex.proofs.reading.digits_of.Goals as goal

pub returns-then-text-ne-MOST_TEXT : goal.returns-then-text-ne-MOST_TEXT
returns-then-text-ne-MOST_TEXT c = search (one_done)

pub returns : goal.returns
returns c = search (two_done)
