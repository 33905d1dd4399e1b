use Rattle.base.specs.Walk.{Walked}
use Rattle.undo.proofs.Reading.{sound_at}
use Rattle.undo.proofs.is_buffer_sound.Given as goal

abbrev pub invariant-loop-word : goal.invariant-loop-word
invariant-loop-word l = Walked (sound_at l.buffer l.lines l.epoch) l.fn.count l.word-index
