use Rattle.checks.proofs.Counting.{count_enough, count_changed}
use Rattle.checks.proofs.Registers.leaving_slot.Goals as goal

pub overflow_sub-result : goal.overflow_sub-result
overflow_sub-result c = search (count_enough)

pub returns : goal.returns
returns c = search (count_changed)
