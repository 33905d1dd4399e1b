use Rattle.intel_hex.proofs.DigitReading.{Valued}
use Rattle.intel_hex.proofs.digits.read_values.Given as goal

abbrev pub invariant-loop-i : goal.invariant-loop-i
invariant-loop-i l = Valued l.characters l.into l.all l.i
