use Rattle.undo.proofs.Storing.{put_start, put_next, put_end}
use Rattle.undo.proofs.put_entries.Goals as goal

pub loop-word-init : goal.loop-word-init
loop-word-init c = search (put_start)

pub loop-word-preserved : goal.loop-word-preserved
loop-word-preserved c = search (put_next)

pub returns : goal.returns
returns c = search (put_end)
