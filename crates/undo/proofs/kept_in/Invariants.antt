use Rattle.std.proofs.Common.{length}
use Rattle.undo.proofs.Reading.{Left}
use Rattle.undo.proofs.kept_in.Given as goal

abbrev pub invariant-loop-rest : goal.invariant-loop-rest
invariant-loop-rest l = Left l.entries l.rest l.target

abbrev pub decreases-loop-rest : goal.decreases-loop-rest
decreases-loop-rest l = length l.rest
