use Rattle.checks.proofs.Checking.{registers_refused, registers_passed}
use Rattle.checks.proofs.refusals.check_registers.Goals as goal

pub returns-then-not-is_proper : goal.returns-then-not-is_proper
returns-then-not-is_proper c = rw c.from.ensures (search (registers_refused))

pub returns : goal.returns
returns c = search (registers_passed)
