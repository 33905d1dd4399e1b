use Rattle.trace.proofs.Running.{feeding_next, feeding_end}
use Rattle.trace.proofs.feed_bytes.Goals as goal

pub loop-rest-preserved : goal.loop-rest-preserved
loop-rest-preserved c = search (feeding_next)

pub returns : goal.returns
returns c = search (feeding_end)
