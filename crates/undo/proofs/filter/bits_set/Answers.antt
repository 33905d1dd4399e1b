use Rattle.undo.proofs.Filtering.{count_start, count_next, count_end}
use Rattle.undo.proofs.filter.bits_set.Goals as goal

pub loop-word-init : goal.loop-word-init
loop-word-init c = search (count_start)

pub loop-word-preserved : goal.loop-word-preserved
loop-word-preserved c = search (count_next)

pub returns : goal.returns
returns c = search (count_end)
