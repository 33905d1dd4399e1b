use Rattle.checks.proofs.Testing.{shape_control, shape_some, shape_sizes}
use Rattle.checks.proofs.View.is_good_shape.Goals as goal

pub returns-then-not-is_good_control : goal.returns-then-not-is_good_control
returns-then-not-is_good_control c = search (shape_control)

pub is_sized-requires : goal.is_sized-requires
is_sized-requires c = search (shape_some)

pub returns : goal.returns
returns c = search (shape_sizes)
