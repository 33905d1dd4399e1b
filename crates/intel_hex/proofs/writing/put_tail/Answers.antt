use Rattle.intel_hex.proofs.RecordParts.{tail_put}
use Rattle.intel_hex.proofs.writing.put_tail.Goals as goal

pub returns : goal.returns
returns c = search (tail_put)
