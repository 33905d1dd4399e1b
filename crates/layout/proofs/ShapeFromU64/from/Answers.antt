use Rattle.std.proofs.Common.{refl}
use Rattle.layout.specs.Fields.{width}
use Rattle.layout.specs.Laws.{shape_laws}
use Rattle.layout.specs.Reading.{lower, read, decoded}
use Rattle.layout.proofs.ShapeFromU64.from.Goals as goal

pub returns : goal.returns
unfolding width lower read
returns c = decoded shape_laws refl _ c.ranges.word.fits
