use Rattle.intel_hex.proofs.DigitReading.{sum_start, sum_next, sum_end}
use Rattle.intel_hex.proofs.digits.read_bytes.Goals as goal

pub loop-i-init : goal.loop-i-init
loop-i-init c = search (sum_start)

pub loop-i-preserved : goal.loop-i-preserved
loop-i-preserved c = search (sum_next)

pub returns : goal.returns
returns c = search (sum_end)
