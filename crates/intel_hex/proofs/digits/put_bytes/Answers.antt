use Rattle.intel_hex.proofs.ByteDigits.{put_none, put_next, put_all}
use Rattle.intel_hex.proofs.digits.put_bytes.Goals as goal

pub loop-i-init : goal.loop-i-init
loop-i-init c = search (put_none)

pub loop-i-preserved : goal.loop-i-preserved
loop-i-preserved c = search (put_next)

pub returns : goal.returns
returns c = search (put_all)
