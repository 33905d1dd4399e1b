use Rattle.transcript.specs.Laws.{feed_over, feed_line, feed_byte}
use Rattle.transcript.proofs.feed.Goals as goal

pub returns-then-session : goal.returns-then-session
returns-then-session c = search (feed_over)

pub returns-then-byte-eq10 : goal.returns-then-byte-eq10
returns-then-byte-eq10 c = search (feed_line)

pub returns : goal.returns
returns c = search (feed_byte)
