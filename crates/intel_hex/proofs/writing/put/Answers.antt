use Rattle.intel_hex.proofs.RecordParts.{record_put}
use Rattle.intel_hex.proofs.writing.put.Goals as goal

pub returns : goal.returns
returns c = search (record_put)
