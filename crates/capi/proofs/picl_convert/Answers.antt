use Rattle.capi.proofs.Laws.{answer_tested, reporting_short, convert_made}
use Rattle.capi.proofs.picl_convert.Goals as goal

pub returns-then-not-has_answer : goal.returns-then-not-has_answer
returns-then-not-has_answer c = search (reporting_short)

pub report-requires : goal.report-requires
report-requires c = search (answer_tested)

pub returns : goal.returns
returns c = search (convert_made)
