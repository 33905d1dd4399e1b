use Rattle.capi.proofs.Laws.{buffered_within, cursor_within, dirty_within}
use Rattle.capi.proofs.places.write_registers.Goals as goal

pub bounds-registers-1 : goal.bounds-registers-1
bounds-registers-1 c = search (buffered_within)

pub bounds-registers-2 : goal.bounds-registers-2
bounds-registers-2 c = search (cursor_within)

pub bounds-registers-3 : goal.bounds-registers-3
bounds-registers-3 c = search (dirty_within)
