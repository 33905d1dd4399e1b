use Rattle.intel_hex.proofs.ByteDigits.{byte_put}
use Rattle.intel_hex.proofs.digits.put_byte.Goals as goal

pub returns : goal.returns
returns c = search (byte_put)
