use Rattle.trace.proofs.Running.{call_runs}
use Rattle.trace.proofs.perform.Goals as goal

pub returns : goal.returns
returns c = search (call_runs)
