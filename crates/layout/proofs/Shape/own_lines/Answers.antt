use Rattle.layout.proofs.Testing.{own_lines}
use Rattle.layout.proofs.Shape.own_lines.Goals as goal

pub returns : goal.returns
returns c = search (own_lines)
