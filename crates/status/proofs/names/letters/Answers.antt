use mathlib.Core.Path.{refl}
use Rattle.status.proofs.names.letters.Goals as goal

pub returns : goal.returns
returns c = refl
