use Rattle.slots.proofs.Lines.{line_empty, line_none, line_outside, line_full}
use Rattle.slots.proofs.sets.line_in.Goals as goal

pub returns-then-word-eq0 : goal.returns-then-word-eq0
returns-then-word-eq0 c = search (line_empty)

pub returns-then-not-is_line : goal.returns-then-not-is_line
returns-then-not-is_line c = search (line_none)

pub returns-then-address-pass : goal.returns-then-address-pass
returns-then-address-pass c = search (line_outside)

pub returns : goal.returns
returns c = search (line_full)
