use Rattle.trace.proofs.Running.{feed_waits, feed_takes}
use Rattle.trace.proofs.feed.Goals as goal

pub returns-then-not-is_full : goal.returns-then-not-is_full
returns-then-not-is_full c = search (feed_waits)

pub returns : goal.returns
returns c = search (feed_takes)
