use Rattle.std.proofs.Common.{ap, not}
use Rattle.transcript.proofs.Feeding.{feeding_start, feed_ready, feeding_next, feeding_end, feeding_full}
use Rattle.transcript.proofs.feed_bytes.Goals as goal

pub loop-taken-init : goal.loop-taken-init
loop-taken-init c = search (feeding_start)

pub feed-requires : goal.feed-requires
feed-requires c =
    feed_ready _ _ _ _ _ _ _ _ _ _ c.loop-taken.invariant _ c.is_roomy.ensures (ap not c.if-not-is_roomy.false)

pub loop-taken-preserved : goal.loop-taken-preserved
loop-taken-preserved c = search (feeding_next)

pub returns : goal.returns
returns c = search (feeding_end)

pub returns-then-not-is_roomy : goal.returns-then-not-is_roomy
returns-then-not-is_roomy c = search (feeding_full)
