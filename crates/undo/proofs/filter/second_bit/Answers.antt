use Rattle.std.proofs.Common.{rules}
use Rattle.undo.specs.Filter.{second_bit}
use Rattle.undo.proofs.filter.second_bit.Goals as goal

pub returns : goal.returns
unfolding second_bit
returns c = search rules
