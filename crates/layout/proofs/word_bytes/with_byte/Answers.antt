use Rattle.std.proofs.Common.{arith}
use Rattle.layout.specs.Bytes.{with_byte}
use Rattle.layout.proofs.word_bytes.with_byte.Goals as goal

pub returns : goal.returns
unfolding with_byte
returns c = omega arith
