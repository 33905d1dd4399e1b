use Rattle.undo.proofs.Reading.{Ordered}
use Rattle.undo.proofs.improper_in.Given as goal

abbrev pub invariant-loop-i : goal.invariant-loop-i
invariant-loop-i l = Ordered l.entries l.lines l.persisted l.initial.least l.i l.least
