use Rattle.intel_hex.proofs.Exporting.{end_out, bank_out, lines_out}
use Rattle.intel_hex.proofs.put_numbered.Goals as goal

pub returns-then-number-last : goal.returns-then-number-last
returns-then-number-last c = search (end_out)

pub returns-then-number-bank : goal.returns-then-number-bank
returns-then-number-bank c = search (bank_out)

pub returns : goal.returns
returns c = search (lines_out)
