use Rattle.capi.proofs.Laws.{array_tested, answer_behind}
use Rattle.capi.proofs.Imports.{import_short, import_made}
use Rattle.capi.proofs.picl_hex_in.Goals as goal

pub returns-then-not-has_reader_places : goal.returns-then-not-has_reader_places
returns-then-not-has_reader_places c = search (import_short)

pub read_reader-requires : goal.read_reader-requires
read_reader-requires c = search (array_tested)

pub report-number-requires : goal.report-number-requires
report-number-requires c = search (answer_behind)

pub put_reader-requires : goal.put_reader-requires
put_reader-requires c = search (array_tested)

pub returns : goal.returns
returns c = search (import_made)
