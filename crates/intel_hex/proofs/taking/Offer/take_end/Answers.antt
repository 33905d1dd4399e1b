use Rattle.intel_hex.proofs.Importing.{end_refused, end_out}
use Rattle.intel_hex.proofs.taking.Offer.take_end.Goals as goal

pub returns-then-not-is_end : goal.returns-then-not-is_end
returns-then-not-is_end c = search (end_refused)

pub returns : goal.returns
returns c = search (end_out)
