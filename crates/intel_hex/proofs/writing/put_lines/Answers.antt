use Rattle.std.proofs.Common.{rules}
use Rattle.intel_hex.proofs.RecordParts.{gathered_few, gathered_fits, lines_put}
use Rattle.intel_hex.proofs.writing.put_lines.Goals as goal

pub put-requires : goal.put-requires
put-requires c = record {
  held_len_bound = search (gathered_few);
  held_in_bounds = search (gathered_fits);
}

pub returns : goal.returns
returns c = search (rules, lines_put)
