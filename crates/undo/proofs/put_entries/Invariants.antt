use Rattle.undo.proofs.Storing.{Putting}
use Rattle.undo.proofs.put_entries.Given as goal

abbrev pub invariant-loop-word : goal.invariant-loop-word
invariant-loop-word l = Putting l.initial.log l.fn.buffer l.fn.undo l.initial.last l.log l.last l.at l.word-index
