use Rattle.convert.proofs.Searching.{entry_read}
use Rattle.convert.proofs.OldBoard.entry.Goals as goal

pub returns : goal.returns
returns c = search (entry_read)
