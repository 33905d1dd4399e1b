use Rattle.intel_hex.proofs.ByteDigits.{digit_is}
use Rattle.intel_hex.proofs.digits.digit.Goals as goal

pub returns : goal.returns
returns c = search (digit_is)
