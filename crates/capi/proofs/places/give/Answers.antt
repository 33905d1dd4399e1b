use Rattle.capi.proofs.Laws.{array_lent, answer_lent}
use Rattle.capi.proofs.places.give.Goals as goal

pub write_registers-requires : goal.write_registers-requires
write_registers-requires c = search (array_lent)

pub write_answer-requires : goal.write_answer-requires
write_answer-requires c = search (answer_lent)
