use Rattle.intel_hex.proofs.TextReading.{has_some, two_framed, one_framed}
use Rattle.intel_hex.proofs.reading.has_lines_framed.Goals as goal

pub returns-then-text-eq-MOST_TEXT : goal.returns-then-text-eq-MOST_TEXT
returns-then-text-eq-MOST_TEXT c = search (two_framed)

pub is_framed-requires-2 : goal.is_framed-requires-2
is_framed-requires-2 c = search (has_some)

pub returns : goal.returns
returns c = search (one_framed)
