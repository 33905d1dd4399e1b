use Rattle.layout.specs.Reading.{is_bit}
use Rattle.layout.proofs.bit.Goals as goal

pub returns : goal.returns
returns c = rw c.from.ensures (is_bit c.args.flag)
