use Rattle.intel_hex.proofs.RecordParts.{two_made}
use Rattle.intel_hex.proofs.writing.two_bytes.Goals as goal

pub returns : goal.returns
returns c = search (two_made)
