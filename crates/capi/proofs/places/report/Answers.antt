use Rattle.capi.proofs.Laws.{answer_only}
use Rattle.capi.proofs.places.report.Goals as goal

pub write_answer-requires : goal.write_answer-requires
write_answer-requires c = search (answer_only)
