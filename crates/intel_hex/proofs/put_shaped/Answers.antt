use Rattle.std.proofs.Common.{rules}
use Rattle.intel_hex.proofs.Exporting.{short_out, past_out, held_out, numbered, done_out}
use Rattle.std.proofs.Common.{rules}
use Rattle.intel_hex.proofs.put_shaped.Goals as goal

pub returns-then-text-lt-MOST_TEXT : goal.returns-then-text-lt-MOST_TEXT
returns-then-text-lt-MOST_TEXT c = search (short_out)

pub last_of-last-requires : goal.last_of-last-requires
last_of-last-requires c = record {
  le_lines = search rules;
  lines_le_most_lines = search rules;
}

pub returns-then-number-last : goal.returns-then-number-last
returns-then-number-last c = search (past_out)

pub returns-then-view-ne0 : goal.returns-then-view-ne0
returns-then-view-ne0 c = search (held_out)

pub put_numbered-requires : goal.put_numbered-requires
put_numbered-requires c = search (numbered)

pub returns : goal.returns
returns c = search (done_out)
