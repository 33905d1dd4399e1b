use Rattle.std.proofs.Common.{rules}
use Rattle.layout.specs.Fields.{width, pack, encode}
use Rattle.std.proofs.Common.{rules}
use Rattle.layout.proofs.Control.encode.Goals as goal

pub returns : goal.returns
unfolding encode pack width
returns c = search rules
