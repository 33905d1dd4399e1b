use Rattle.convert.proofs.Searching.{Searched}
use Rattle.convert.proofs.OldBoard.check_entries.Given as goal

abbrev pub invariant-loop-i : goal.invariant-loop-i
invariant-loop-i l = Searched l.self.words.now l.self.undo l.self.lines l.i l.older
