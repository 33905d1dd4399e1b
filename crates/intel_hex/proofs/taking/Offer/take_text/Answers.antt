use Rattle.std.proofs.Common.{rules}
use Rattle.intel_hex.proofs.Importing.{lines_there, long_refused}
use Rattle.std.proofs.Common.{rules}
use Rattle.intel_hex.proofs.taking.Offer.take_text.Goals as goal

pub returns-then-not-has_lines : goal.returns-then-not-has_lines
returns-then-not-has_lines c = search (long_refused)

pub take_lines-requires : goal.take_lines-requires
take_lines-requires c = record {
  ready = search rules;
  text_value = search (lines_there);
}
