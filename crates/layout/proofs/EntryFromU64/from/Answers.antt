use Rattle.std.proofs.Common.{refl}
use Rattle.layout.specs.Fields.{width}
use Rattle.layout.specs.Laws.{entry_laws}
use Rattle.layout.specs.Reading.{lower, read, decoded}
use Rattle.layout.proofs.EntryFromU64.from.Goals as goal

pub returns : goal.returns
unfolding width lower read
returns c = decoded entry_laws refl _ c.ranges.word.fits
