use Rattle.std.proofs.Common.{div-one}
use Rattle.layout.specs.Fields.{width, unpack}
use Rattle.layout.specs.Bytes.{bytes_of}
use Rattle.layout.proofs.word_bytes.bytes_of.Goals as goal

pub returns : goal.returns
unfolding width unpack bytes_of
returns c = rw div-one c.to_be_bytes.ensures
