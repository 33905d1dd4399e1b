use Rattle.capi.proofs.Laws.{array_tested, crossing_short, tally_made, answer_behind}
use Rattle.capi.proofs.picl_tally.Goals as goal

pub returns-then-not-has_places : goal.returns-then-not-has_places
returns-then-not-has_places c = search (crossing_short)

pub read_registers-requires : goal.read_registers-requires
read_registers-requires c = search (array_tested)

pub report-requires : goal.report-requires
report-requires c = search (answer_behind)

pub returns : goal.returns
returns c = search (tally_made)
