use Rattle.std.proofs.Common.{rules}
use Rattle.undo.specs.Filter.{first_bit}
use Rattle.undo.proofs.filter.first_bit.Goals as goal

pub returns : goal.returns
unfolding first_bit
returns c = search rules
