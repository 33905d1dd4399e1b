use Rattle.undo.proofs.Ring.{placed_low, placed_high}
use Rattle.undo.proofs.place.Goals as goal

pub returns-then-turn-undo : goal.returns-then-turn-undo
returns-then-turn-undo c = search (placed_low)

pub returns : goal.returns
returns c = search (placed_high)
