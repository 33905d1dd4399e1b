use Rattle.std.proofs.Common.{map}
use Rattle.intel_hex.specs.Contents.{paired}
use Rattle.intel_hex.specs.Promises.{last_digit}
use Rattle.intel_hex.proofs.DigitReading.{Summed}
use Rattle.intel_hex.proofs.digits.read_bytes.Given as goal

abbrev pub invariant-loop-i : goal.invariant-loop-i
invariant-loop-i l = Summed (paired (map last_digit l.values)) l.initial.into l.into l.sum l.i
