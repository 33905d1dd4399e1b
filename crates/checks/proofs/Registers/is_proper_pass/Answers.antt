use Rattle.checks.proofs.Testing.{pass_inside, pass_astray, pass_outside}
use Rattle.checks.proofs.Registers.is_proper_pass.Goals as goal

pub returns-then-waits : goal.returns-then-waits
returns-then-waits c = search (pass_inside)

pub returns-then-self-ne0 : goal.returns-then-self-ne0
returns-then-self-ne0 c = search (pass_astray)

pub returns : goal.returns
returns c = search (pass_outside)
