use Rattle.slots.proofs.Dividing.{fraction_fits, remains}
use Rattle.slots.proofs.sets.set_of.Goals as goal

pub overflow_mul-result : goal.overflow_mul-result
overflow_mul-result c = search (fraction_fits)

pub returns : goal.returns
returns c = search (remains)
