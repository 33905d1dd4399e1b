use Rattle.intel_hex.proofs.TextReading.{with_done}
use Rattle.intel_hex.proofs.reading.with_digits.Goals as goal

pub returns : goal.returns
returns c = search (with_done)
