use Rattle.std.proofs.Common.{rules}
use Rattle.steps.proofs.Calls.{clean_address, visit_clean, visit_other, visit_target}
use Rattle.steps.proofs.visit.Goals as goal

pub returns-then-not-slot : goal.returns-then-not-slot
returns-then-not-slot c = search (visit_clean)

pub returns-then-slot-target : goal.returns-then-slot-target
returns-then-slot-target c = search (visit_other)

pub clean-requires : goal.clean-requires
clean-requires c = search (rules, clean_address)

pub returns : goal.returns
returns c = search (visit_target)
