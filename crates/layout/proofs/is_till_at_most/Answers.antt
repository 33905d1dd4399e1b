use Rattle.layout.proofs.Testing.{till_at_most}
use Rattle.layout.proofs.is_till_at_most.Goals as goal

pub returns : goal.returns
returns c = search (till_at_most)
