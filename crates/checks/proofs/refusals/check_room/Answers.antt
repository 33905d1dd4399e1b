use Rattle.checks.proofs.Rows.{room_spared, room_refused, room_found}
use Rattle.checks.proofs.refusals.check_room.Goals as goal

pub returns-then-not-is_undo_due : goal.returns-then-not-is_undo_due
returns-then-not-is_undo_due c = search (room_spared)

pub returns-then-view-registers : goal.returns-then-view-registers
returns-then-view-registers c = rw c.from.ensures (search (room_refused))

pub returns : goal.returns
returns c = search (room_found)
