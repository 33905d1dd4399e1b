use Rattle.intel_hex.proofs.Importing.{two_lines, one_line}
use Rattle.intel_hex.proofs.taking.has_lines.Goals as goal

pub returns-then-bytes-eq-MOST_TEXT : goal.returns-then-bytes-eq-MOST_TEXT
returns-then-bytes-eq-MOST_TEXT c = search (two_lines)

pub returns : goal.returns
returns c = search (one_line)
