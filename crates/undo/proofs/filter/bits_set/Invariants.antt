use Rattle.undo.proofs.Filtering.{Counting}
use Rattle.undo.proofs.filter.bits_set.Given as goal

abbrev pub invariant-loop-word : goal.invariant-loop-word
invariant-loop-word l = Counting l.fn.buffer l.count l.word-index
