use Rattle.image.proofs.Writing.{write_start, write_ready, write_next, write_end}
use Rattle.image.proofs.put_words.Goals as goal

pub loop-word-init : goal.loop-word-init
loop-word-init c = search (write_start)

pub put-requires : goal.put-requires
put-requires c = search (write_ready)

pub loop-word-preserved : goal.loop-word-preserved
loop-word-preserved c = search (write_next)

pub returns : goal.returns
returns c = search (write_end)
