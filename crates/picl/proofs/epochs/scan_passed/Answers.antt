use Rattle.picl.proofs.Passing.{scan_told, scan_persisted, visit_within, visit_steps, visit_ready, persist_ready}
use Rattle.picl.proofs.Calling.{visit_acted, visit_answered, persist_within, persist_answered}
use Rattle.picl.proofs.epochs.scan_passed.Goals as goal

pub scan_target-target-requires : goal.scan_target-target-requires
scan_target-target-requires c = search (scan_persisted, scan_told)

pub is_dirty_at-was-requires : goal.is_dirty_at-was-requires
is_dirty_at-was-requires c = search (visit_within, scan_told)

pub stepped-next-requires : goal.stepped-next-requires
stepped-next-requires c = search (visit_steps, scan_told)

pub visit-done-requires : goal.visit-done-requires
visit-done-requires c = search (visit_ready, scan_told)

pub finish_slot-requires : goal.finish_slot-requires
finish_slot-requires c = search (visit_acted)

pub returns-then-registers-view : goal.returns-then-registers-view
returns-then-registers-view c = search (visit_answered)

pub persist-done-requires : goal.persist-done-requires
persist-done-requires c = search (persist_ready, scan_told)

pub finish-requires : goal.finish-requires
finish-requires c = search (persist_within)

pub returns : goal.returns
returns c = search (persist_answered)
