use Rattle.intel_hex.proofs.Importing.{log_out, ended_out}
use Rattle.intel_hex.proofs.taking.Offer.take.Goals as goal

pub returns-then-self-ne0 : goal.returns-then-self-ne0
returns-then-self-ne0 c = search (log_out)

pub returns-then-self : goal.returns-then-self
returns-then-self c = search (ended_out)
