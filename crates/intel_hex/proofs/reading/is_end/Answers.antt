use Rattle.std.proofs.Common.{ℕ}
use Rattle.layout.specs.Bytes.{AreBytes}
use Rattle.intel_hex.proofs.TextReading.{end_met}
use Rattle.intel_hex.proofs.reading.is_end.Goals as goal

pub returns : goal.returns
returns c = let known : AreBytes c.args.text.now = λ (j : ℕ). (c.type_inv.text j).fits in search (end_met)
