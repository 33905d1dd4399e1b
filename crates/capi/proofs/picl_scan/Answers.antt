use Rattle.capi.proofs.Laws.{both_tested, array_tested, crossing_short, call_made}
use Rattle.capi.proofs.picl_scan.Goals as goal

pub returns-then-not-has_places : goal.returns-then-not-has_places
returns-then-not-has_places c = search (crossing_short)

pub read_registers-requires : goal.read_registers-requires
read_registers-requires c = search (array_tested)

pub give-requires : goal.give-requires
give-requires c = search (both_tested)

pub returns : goal.returns
returns c = search (call_made)
