use Rattle.steps.proofs.Calls.{cleaned_out}
use Rattle.steps.proofs.clean.Goals as goal

pub returns : goal.returns
returns c = search (cleaned_out)
