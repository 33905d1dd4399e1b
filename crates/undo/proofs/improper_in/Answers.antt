use Rattle.undo.proofs.Reading.{order_start, order_next, order_found, order_end}
use Rattle.undo.proofs.improper_in.Goals as goal

pub loop-i-init : goal.loop-i-init
loop-i-init c = search (order_start)

pub returns-then-not-is_proper_word : goal.returns-then-not-is_proper_word
returns-then-not-is_proper_word c = search (order_found)

pub loop-i-preserved : goal.loop-i-preserved
loop-i-preserved c = search (order_next)

pub returns-after-loop-i : goal.returns-after-loop-i
returns-after-loop-i c = search (order_end)
