use Rattle.convert.proofs.Filling.{fill_head, fill_ready, fill_done}
use Rattle.convert.proofs.OldBoard.fill.Goals as goal

pub put_head-requires : goal.put_head-requires
put_head-requires c = search (fill_head)

pub put_lines-requires : goal.put_lines-requires
put_lines-requires c = search (fill_ready)

pub returns : goal.returns
returns c = search (fill_done)
