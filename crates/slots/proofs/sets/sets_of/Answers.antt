use Rattle.slots.proofs.Dividing.{quotient_fits, inverse_fits, sets_of}
use Rattle.slots.proofs.sets.sets_of.Goals as goal

pub overflow_cast-result-2 : goal.overflow_cast-result-2
overflow_cast-result-2 c = search (quotient_fits)

pub overflow_add-result : goal.overflow_add-result
overflow_add-result c = search (inverse_fits)

pub returns : goal.returns
returns c = search (sets_of)
