use Rattle.std.proofs.Common.{ℕ, ◌∙◌}
use Rattle.layout.specs.Bytes.{AreBytes}
use Rattle.records.specs.Laws.{bytes_read}
use Rattle.records.proofs.read.Goals as goal

pub returns : goal.returns
returns c =
    let known : AreBytes c.args.bytes.now = λ (j : ℕ). (c.type_inv.bytes j).fits in
    rw c.reader_of.ensures at c.reading.ensures ∙ bytes_read c.args.bytes.now known
