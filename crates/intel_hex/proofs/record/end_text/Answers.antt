use Rattle.std.proofs.Common.{refl}
use Rattle.intel_hex.specs.Records.{end_text}
use Rattle.intel_hex.proofs.record.end_text.Goals as goal

pub returns : goal.returns
unfolding end_text
returns c = refl
