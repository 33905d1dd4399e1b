use Rattle.picl.proofs.Passing.{line_within, store_sited, store_ready}
use Rattle.picl.proofs.Calling.{store_carried, store_answered}
use Rattle.picl.proofs.lines.store_line.Goals as goal

pub is_dirty_at-was-requires : goal.is_dirty_at-was-requires
is_dirty_at-was-requires c = search (line_within, store_sited)

pub store-done-requires : goal.store-done-requires
store-done-requires c = search (store_ready)

pub finish_slot-requires : goal.finish_slot-requires
finish_slot-requires c = search (store_carried)

pub returns : goal.returns
returns c = search (store_answered)
