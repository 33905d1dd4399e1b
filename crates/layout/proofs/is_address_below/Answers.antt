use Rattle.layout.proofs.Testing.{address_below}
use Rattle.layout.proofs.is_address_below.Goals as goal

pub returns : goal.returns
returns c = search (address_below)
