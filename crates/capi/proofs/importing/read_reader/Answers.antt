use Rattle.std.proofs.Common.{rules}
use Rattle.capi.specs.Places.{read_reader}
use Rattle.capi.proofs.importing.read_reader.Goals as goal

pub returns : goal.returns
unfolding read_reader
returns c = search rules
