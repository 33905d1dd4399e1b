use Rattle.checks.specs.Laws.{then_refused}
use Rattle.checks.specs.Refusals.{store_checked}
use Rattle.checks.specs.Stages.{handed_as, line_ready, line_below, room_staged, room_passed}
use Rattle.checks.proofs.refusals.check_store.Goals as goal

pub returns-in_err-line : goal.returns-in_err-line
unfolding store_checked
returns-in_err-line c = handed_as _ _ _ _ c.from_residual.ensures.1 (then_refused _ _ _ c.in_err-line.ensures)

pub check_room-requires : goal.check_room-requires
check_room-requires c = record {
  rows_ready = search (line_ready, c.in_ok-line.ensures);
  slot_lt_slots = search (line_below, c.in_ok-line.ensures);
}

pub returns-in_err-check_room : goal.returns-in_err-check_room
returns-in_err-check_room c =
    handed_as _ _ _ _ c.from_residual-in_err-check_room.ensures.1
    (room_staged _ _ _ _ _ c.in_ok-line.ensures _ c.in_err-check_room.ensures)

pub returns : goal.returns
returns c = search (room_passed, c.in_ok-line.ensures, c.in_ok-check_room.ensures)
