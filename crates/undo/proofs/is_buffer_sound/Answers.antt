use Rattle.undo.proofs.Reading.{sound_end, sound_improper, sound_unmarked, sound_next}
use Rattle.undo.proofs.is_buffer_sound.Goals as goal

pub returns-then-not-is_buffered_proper : goal.returns-then-not-is_buffered_proper
returns-then-not-is_buffered_proper c = search (sound_improper)

pub returns-then-not-is_marked : goal.returns-then-not-is_marked
returns-then-not-is_marked c = search (sound_unmarked)

pub loop-word-preserved : goal.loop-word-preserved
loop-word-preserved c = search (sound_next)

pub returns : goal.returns
returns c = search (sound_end)
