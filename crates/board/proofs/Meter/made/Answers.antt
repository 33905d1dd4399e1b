use native.Mathlib.Omega.{arith}
use Rattle.board.specs.Outcome.{not_cut}
use Rattle.board.proofs.Meter.made.Goals as goal

pub overflow_cast-result-2 : goal.overflow_cast-result-2
overflow_cast-result-2 c = omega (arith, not_cut c.args.self c.requires.self_value, c.requires.left_bound)
