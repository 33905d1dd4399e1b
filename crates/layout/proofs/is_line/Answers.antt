use Rattle.layout.proofs.SlotTesting.{line_clean, turned_fits, line_dirty}
use Rattle.layout.proofs.is_line.Goals as goal

pub returns-then-form : goal.returns-then-form
returns-then-form c = search (line_clean)

pub overflow_add-result : goal.overflow_add-result
overflow_add-result c = search (turned_fits)

pub returns : goal.returns
returns c = search (line_dirty)
