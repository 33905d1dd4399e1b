use Rattle.slots.proofs.Dividing.{product_fits}
use Rattle.slots.proofs.sets.fraction.Goals as goal

pub overflow_mul-result : goal.overflow_mul-result
overflow_mul-result c = search (product_fits)
