use Rattle.capi.proofs.Laws.{both_tested, array_tested, crossing_short, call_made}
use Rattle.capi.proofs.Lines.{store_leaves}
use Rattle.capi.proofs.picl_store.Goals as goal

pub returns-then-not-has_places : goal.returns-then-not-has_places
returns-then-not-has_places c = search (crossing_short)

pub read_registers-requires : goal.read_registers-requires
read_registers-requires c = search (array_tested)

pub give_line-requires : goal.give_line-requires
give_line-requires c = record {
  answer_value = search (both_tested);
  leaves_pass = search (store_leaves);
}

pub returns : goal.returns
returns c = search (call_made)
