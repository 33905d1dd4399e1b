use Rattle.slots.proofs.Lines.{at_empty, least_dirty, tags_few, at_no_line, at_outside, set_fits, at_set}
use Rattle.slots.proofs.is_proper_at.Goals as goal

pub returns-then-word-eq0 : goal.returns-then-word-eq0
returns-then-word-eq0 c = search (at_empty)

pub is_line-requires : goal.is_line-requires
is_line-requires c = search (least_dirty, tags_few)

pub returns-then-not-is_line : goal.returns-then-not-is_line
returns-then-not-is_line c = search (at_no_line)

pub returns-then-address-bounds : goal.returns-then-address-bounds
returns-then-address-bounds c = search (at_outside)

pub overflow_cast-result-4 : goal.overflow_cast-result-4
overflow_cast-result-4 c = search (set_fits)

pub returns : goal.returns
returns c = search (at_set)
