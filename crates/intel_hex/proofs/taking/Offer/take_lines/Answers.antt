use Rattle.std.proofs.Common.{rules}
use Rattle.intel_hex.proofs.Importing.{lines_inside, lines_refused, lines_outside, lines_out}
use Rattle.intel_hex.proofs.taking.Offer.take_lines.Goals as goal

pub returns-in_default : goal.returns-in_default
returns-in_default c = search (lines_refused, c.in_default.ensures)

pub returns-then-is_outside : goal.returns-then-is_outside
returns-then-is_outside c = search (lines_outside, c.in-Some.ensures)

pub put_lines-requires : goal.put_lines-requires
put_lines-requires c = search (rules, lines_inside)

pub returns : goal.returns
returns c = search (lines_out, c.in-Some.ensures)
