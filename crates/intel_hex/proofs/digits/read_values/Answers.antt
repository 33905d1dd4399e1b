use Rattle.intel_hex.proofs.DigitReading.{value_start, value_next, value_end}
use Rattle.intel_hex.proofs.digits.read_values.Goals as goal

pub loop-i-init : goal.loop-i-init
loop-i-init c = search (value_start)

pub loop-i-preserved : goal.loop-i-preserved
loop-i-preserved c = search (value_next)

pub returns : goal.returns
returns c = search (value_end)
