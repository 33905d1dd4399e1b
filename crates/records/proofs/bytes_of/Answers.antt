use Rattle.layout.specs.Bytes.{bytes_of}
use Rattle.layout.specs.Fields.{unpack}
use Rattle.records.proofs.bytes_of.Goals as goal

pub returns : goal.returns
unfolding bytes_of unpack
returns c = rw (c.copy_from_slice.ensures.after, c.copy_from_slice-2.ensures.after, c.bytes_of.ensures, c.bytes_of-2.ensures)
