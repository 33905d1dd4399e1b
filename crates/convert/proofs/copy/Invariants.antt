use Rattle.base.specs.Copied.{Copied}
use Rattle.convert.proofs.copy.Given as goal

abbrev pub invariant-loop-i : goal.invariant-loop-i
invariant-loop-i l = Copied l.from l.initial.to l.to l.i
