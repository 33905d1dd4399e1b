use Rattle.base.specs.Walk.{Walked}
use Rattle.undo.specs.Log.{buffered_proper}
use Rattle.undo.proofs.is_buffer_proper.Given as goal

abbrev pub invariant-loop-word : goal.invariant-loop-word
invariant-loop-word l = Walked (buffered_proper l.fn.buffer l.lines l.epoch) l.fn.count l.word-index
