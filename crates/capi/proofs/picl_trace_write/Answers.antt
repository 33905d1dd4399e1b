use Rattle.capi.proofs.Laws.{array_tested, answer_behind}
use Rattle.capi.proofs.Writing.{write_short, write_made}
use Rattle.capi.proofs.picl_trace_write.Goals as goal

pub returns-then-not-has_record_places : goal.returns-then-not-has_record_places
returns-then-not-has_record_places c = search (write_short)

pub put_record-status-requires : goal.put_record-status-requires
put_record-status-requires c = search (array_tested)

pub report-requires : goal.report-requires
report-requires c = search (answer_behind)

pub returns : goal.returns
returns c = search (write_made)
