use Rattle.capi.proofs.Laws.{both_tested, crossing_short, crossing_made}
use Rattle.capi.proofs.picl_power_up.Goals as goal

pub returns-then-not-has_places : goal.returns-then-not-has_places
returns-then-not-has_places c = search (crossing_short)

pub give-requires : goal.give-requires
give-requires c = search (both_tested)

pub returns : goal.returns
returns c = search (crossing_made)
