use Rattle.checks.proofs.Testing.{control_length, control_start, control_last}
use Rattle.checks.proofs.View.is_good_control.Goals as goal

pub returns-then-self : goal.returns-then-self
returns-then-self c = search (control_length)

pub returns-then-self-2 : goal.returns-then-self-2
returns-then-self-2 c = search (control_start)

pub returns : goal.returns
returns c = search (control_last)
