use Rattle.steps.proofs.Moving.{slot_line, leave_clean, leave_dirty}
use Rattle.steps.proofs.moves.write_back.Goals as goal

pub returns-then-not-slot : goal.returns-then-not-slot
returns-then-not-slot c = search (leave_clean)

pub write_out-requires : goal.write_out-requires
write_out-requires c = search (slot_line)

pub returns : goal.returns
returns c = search (leave_dirty)
