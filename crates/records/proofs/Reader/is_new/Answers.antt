use Rattle.records.specs.Steps.{is_new}
use Rattle.records.proofs.Reader.is_new.Goals as goal

pub returns : goal.returns
unfolding is_new
returns c = rw c.new.ensures at c.eq.ensures
