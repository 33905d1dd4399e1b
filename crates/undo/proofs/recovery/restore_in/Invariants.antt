use Rattle.std.proofs.Common.{length}
use Rattle.undo.proofs.Restoring.{Restoring}
use Rattle.undo.proofs.recovery.restore_in.Given as goal

abbrev pub invariant-loop-word : goal.invariant-loop-word
invariant-loop-word l = Restoring l.initial.lines l.persisted l.fn.entries l.initial.last l.lines l.last l.word-iterator.iter.rest.now (length l.yielded)
