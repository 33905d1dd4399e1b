use Rattle.intel_hex.proofs.Gathering.{gather_one, gather_two}
use Rattle.intel_hex.proofs.writing.gather.Goals as goal

pub returns-then-first-lines : goal.returns-then-first-lines
returns-then-first-lines c = search (gather_one)

pub returns : goal.returns
returns c = search (gather_two)
