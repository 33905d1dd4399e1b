use Rattle.convert.proofs.Filling.{copied_ready, lines_recovered}
use Rattle.convert.proofs.OldBoard.put_lines.Goals as goal

pub restore-requires : goal.restore-requires
restore-requires c = search (copied_ready)

pub returns : goal.returns
returns c = search (lines_recovered)
