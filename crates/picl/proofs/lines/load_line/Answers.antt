use Rattle.std.proofs.Common.{arith}
use Rattle.picl.proofs.Passing.{line_within, fill_ready}
use Rattle.picl.proofs.Calling.{line_carried, load_answered}
use Rattle.picl.proofs.lines.load_line.Goals as goal

pub is_dirty_at-was-requires : goal.is_dirty_at-was-requires
is_dirty_at-was-requires c = search (line_within)

pub load-done-requires : goal.load-done-requires
load-done-requires c = search (fill_ready)

pub finish_slot-requires : goal.finish_slot-requires
finish_slot-requires c = search (line_carried)

pub returns : goal.returns
returns c = search (load_answered)

pub overflow_mul-value : goal.overflow_mul-value
overflow_mul-value c = omega (arith, line_within _ _ _ _ _ c.requires)

pub overflow_add-value : goal.overflow_add-value
overflow_add-value c = omega (arith, line_within _ _ _ _ _ c.requires)

pub offset_bounds-work-k : goal.offset_bounds-work-k
offset_bounds-work-k c = omega (arith, line_within _ _ _ _ _ c.requires)

pub bounds-work-k : goal.bounds-work-k
bounds-work-k c = omega (arith, line_within _ _ _ _ _ c.requires)
