use Rattle.intel_hex.proofs.RecordParts.{bank_put}
use Rattle.intel_hex.proofs.writing.put_bank.Goals as goal

pub returns : goal.returns
returns c = search (bank_put)
