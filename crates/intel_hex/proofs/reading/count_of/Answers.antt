use Rattle.intel_hex.proofs.TextReading.{has_some, line_count}
use Rattle.intel_hex.proofs.reading.count_of.Goals as goal

pub overflow_sub-result : goal.overflow_sub-result
overflow_sub-result c = search (has_some)

pub returns : goal.returns
returns c = search (line_count)
