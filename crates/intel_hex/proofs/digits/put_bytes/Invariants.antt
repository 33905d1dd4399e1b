use Rattle.intel_hex.proofs.ByteDigits.{Put}
use Rattle.intel_hex.proofs.digits.put_bytes.Given as goal

abbrev pub invariant-loop-i : goal.invariant-loop-i
invariant-loop-i l = Put l.bytes l.initial.text l.at l.text l.sum l.i
