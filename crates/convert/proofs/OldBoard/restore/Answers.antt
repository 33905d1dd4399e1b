use Rattle.convert.proofs.Filling.{restore_start, restore_ready, restore_next, restore_end}
use Rattle.convert.proofs.OldBoard.restore.Goals as goal

pub loop-i-init : goal.loop-i-init
loop-i-init c = search (restore_start)

pub restore_entry-requires : goal.restore_entry-requires
restore_entry-requires c = search (restore_ready)

pub loop-i-preserved : goal.loop-i-preserved
loop-i-preserved c = search (restore_next)

pub returns : goal.returns
returns c = search (restore_end)
