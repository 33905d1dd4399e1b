use Rattle.std.proofs.Common.{◌≤◌, length}
use Rattle.replaycases.proofs.difference.Given as goal

abbrev pub invariant-loop-script : goal.invariant-loop-script
invariant-loop-script l =
    (goal.iterator-loop-script).can_next l.script-iterator × (goal.iterator-loop-script).is_finite l.script-iterator × (l.agreed ≤ length l.expected)
