use Rattle.intel_hex.proofs.RecordParts.{end_put}
use Rattle.intel_hex.specs.Records.{end_text}
use Rattle.intel_hex.proofs.writing.put_end.Goals as goal

pub returns : goal.returns
unfolding end_text
returns c = search (end_put)
