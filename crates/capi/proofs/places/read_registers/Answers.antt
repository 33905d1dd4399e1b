use Rattle.std.proofs.Common.{rules}
use Rattle.capi.specs.Places.{read_registers}
use Rattle.capi.proofs.places.read_registers.Goals as goal

pub returns : goal.returns
unfolding read_registers
returns c = search rules
