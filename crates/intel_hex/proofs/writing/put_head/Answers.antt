use Rattle.intel_hex.proofs.RecordParts.{count_fits, rest_fits, head_same, head_put}
use Rattle.intel_hex.proofs.writing.put_head.Goals as goal

pub put_byte-requires : goal.put_byte-requires
put_byte-requires c = search (count_fits)

pub put_bytes-sum-requires : goal.put_bytes-sum-requires
put_bytes-sum-requires c = search (rest_fits)

pub shape_of-text : goal.shape_of-text
shape_of-text c = search (head_same)

pub returns : goal.returns
returns c = search (head_put)
