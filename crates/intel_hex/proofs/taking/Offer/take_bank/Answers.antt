use Rattle.intel_hex.proofs.Importing.{bank_refused, bank_out}
use Rattle.intel_hex.proofs.taking.Offer.take_bank.Goals as goal

pub returns-in_default : goal.returns-in_default
returns-in_default c = search (bank_refused, c.in_default.ensures)

pub returns : goal.returns
returns c = search (bank_out, c.in-Some.ensures)
