use Rattle.std.proofs.Common.{length}
use Rattle.trace.specs.Steps.{machine_of}
use Rattle.trace.proofs.Running.{Feeding}
use Rattle.trace.proofs.feed_bytes.Given as goal

abbrev pub invariant-loop-rest : goal.invariant-loop-rest
invariant-loop-rest l = Feeding (machine_of l.initial.run l.initial.board l.initial.work) l.input l.rest l.board l.work l.run

abbrev pub decreases-loop-rest : goal.decreases-loop-rest
decreases-loop-rest l = length l.rest
