use Rattle.std.proofs.Common.{rules}
use Rattle.undo.specs.Log.{flushed}
use Rattle.undo.proofs.LogState.flushed.Goals as goal

pub returns : goal.returns
unfolding flushed
returns c = search rules
