use Rattle.std.proofs.Common.{ℕ}
use Rattle.layout.specs.Bytes.{AreBytes}
use Rattle.trace.proofs.Running.{some_byte, some_record}
use Rattle.trace.proofs.feed_some.Goals as goal

pub returns-then-has_record : goal.returns-then-has_record
returns-then-has_record c = let known : AreBytes c.args.input.now = λ (j : ℕ). (c.type_inv.input j).fits in search (some_record)

pub returns : goal.returns
returns c = search (some_byte)
