use Rattle.checks.proofs.Rows.{line_outside, line_inside}
use Rattle.checks.proofs.refusals.check_address.Goals as goal

pub returns-then-address-view : goal.returns-then-address-view
returns-then-address-view c = rw c.from.ensures (search (line_outside))

pub returns : goal.returns
returns c = search (line_inside)
