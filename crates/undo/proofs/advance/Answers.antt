use Rattle.undo.proofs.Storing.{advance_fits, advance_done}
use Rattle.undo.proofs.advance.Goals as goal

pub encode-requires : goal.encode-requires
encode-requires c = search (advance_fits)

pub returns : goal.returns
returns c = search (advance_done)
