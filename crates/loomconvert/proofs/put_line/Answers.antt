use Rattle.loomconvert.proofs.Converting.{refusal_put}
use Rattle.loomconvert.proofs.put_line.Goals as goal

pub returns : goal.returns
returns c = search (refusal_put)
