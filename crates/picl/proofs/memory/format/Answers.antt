use Rattle.picl.proofs.Boards.{format_refused, format_fits, format_within, format_made}
use Rattle.picl.proofs.memory.format.Goals as goal

pub returns-then-not-is_good_sizes : goal.returns-then-not-is_good_sizes
returns-then-not-is_good_sizes c = search (format_refused)

pub encode-requires : goal.encode-requires
encode-requires c = search (format_fits)

pub bounds-board-1 : goal.bounds-board-1
bounds-board-1 c = search (format_within)

pub returns : goal.returns
returns c = search (format_made)
