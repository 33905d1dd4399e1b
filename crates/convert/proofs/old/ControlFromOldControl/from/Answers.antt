use Rattle.std.proofs.Common.{refl, rules}
use Rattle.layout.specs.Fields.{width}
use Rattle.layout.specs.Reading.{lower, read, decoded}
use Rattle.convert.specs.Old.{old_control_laws}
use Rattle.convert.proofs.old.ControlFromOldControl.from.Goals as goal

pub returns : goal.returns
unfolding width lower read
returns c = decoded old_control_laws refl _ (search rules)
