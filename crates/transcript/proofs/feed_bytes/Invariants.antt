use Rattle.transcript.proofs.Feeding.{Feeding}
use Rattle.transcript.proofs.feed_bytes.Given as goal

abbrev pub invariant-loop-taken : goal.invariant-loop-taken
invariant-loop-taken l =
    Feeding l.initial.session l.input l.initial.board l.initial.work l.initial.out l.board l.work l.out l.session l.taken
