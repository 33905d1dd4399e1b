use Rattle.std.proofs.Common.{refl}
use Rattle.layout.specs.Fields.{width}
use Rattle.layout.specs.Reading.{lower, read, decoded}
use Rattle.convert.specs.Old.{old_entry_laws}
use Rattle.convert.proofs.old.OldEntryFromU64.from.Goals as goal

pub returns : goal.returns
unfolding width lower read
returns c = decoded old_entry_laws refl _ c.ranges.word.fits
