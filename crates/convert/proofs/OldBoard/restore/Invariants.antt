use Rattle.convert.proofs.Filling.{Restoring}
use Rattle.convert.proofs.OldBoard.restore.Given as goal

abbrev pub invariant-loop-i : goal.invariant-loop-i
invariant-loop-i l = Restoring l.self.words.now l.initial.lines l.self.undo l.lines l.i
