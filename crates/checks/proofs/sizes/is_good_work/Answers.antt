use Rattle.checks.proofs.Testing.{work_bits}
use Rattle.checks.proofs.sizes.is_good_work.Goals as goal

pub returns : goal.returns
returns c = search (work_bits)
