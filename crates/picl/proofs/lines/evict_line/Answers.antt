use Rattle.picl.proofs.Passing.{line_within, evict_ready}
use Rattle.picl.proofs.Calling.{line_acted, evict_answered}
use Rattle.picl.proofs.lines.evict_line.Goals as goal

pub is_dirty_at-was-requires : goal.is_dirty_at-was-requires
is_dirty_at-was-requires c = search (line_within)

pub evict-done-requires : goal.evict-done-requires
evict-done-requires c = search (evict_ready)

pub finish_slot-requires : goal.finish_slot-requires
finish_slot-requires c = search (line_acted)

pub returns : goal.returns
returns c = search (evict_answered)
