use Rattle.std.proofs.Common.{arith}
use Rattle.convert.proofs.Filling.{entry_line, entry_skipped, entry_made}
use Rattle.convert.proofs.OldBoard.restore_entry.Goals as goal

pub offset_bounds-lines-entry : goal.offset_bounds-lines-entry
offset_bounds-lines-entry c = omega (arith, c.entry-old.ensures.fits.address)

pub bounds-lines-entry : goal.bounds-lines-entry
bounds-lines-entry c = search (entry_line)

pub returns-then-entry-self : goal.returns-then-entry-self
returns-then-entry-self c = search (entry_made)

pub returns-else-entry-self : goal.returns-else-entry-self
returns-else-entry-self c = search (entry_skipped)
