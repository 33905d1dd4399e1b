use Rattle.intel_hex.proofs.Importing.{lines_put}
use Rattle.intel_hex.proofs.taking.put_lines.Goals as goal

pub returns : goal.returns
returns c = search (lines_put)
