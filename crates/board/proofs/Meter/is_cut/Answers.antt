use Rattle.std.proofs.Common.{rules}
use Rattle.board.specs.Stores.{was_cut}
use Rattle.board.proofs.Meter.is_cut.Goals as goal

pub returns : goal.returns
unfolding was_cut
returns c = search rules
