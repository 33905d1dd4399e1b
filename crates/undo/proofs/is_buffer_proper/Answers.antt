use Rattle.undo.proofs.Reading.{proper_failed, proper_next, proper_end}
use Rattle.undo.proofs.is_buffer_proper.Goals as goal

pub returns-then-not-is_buffered_proper : goal.returns-then-not-is_buffered_proper
returns-then-not-is_buffered_proper c = search (proper_failed)

pub loop-word-preserved : goal.loop-word-preserved
loop-word-preserved c = search (proper_next)

pub returns : goal.returns
returns c = search (proper_end)
