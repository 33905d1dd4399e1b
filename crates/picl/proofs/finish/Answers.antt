use Rattle.std.proofs.Common.{rules}
use Rattle.picl.proofs.Finishing.{finish_cut, finish_whole}
use mathlib.Core.Path.{sym, ◌∙◌}
use Rattle.picl.proofs.finish.Goals as goal

pub returns-then-is_cut : goal.returns-then-is_cut
returns-then-is_cut c = search (finish_cut)

pub made-requires : goal.made-requires
made-requires c = record {
  self_value = sym c.is_cut.ensures ∙ c.if-is_cut.false;
  left_bound = search rules;
}

pub returns : goal.returns
returns c = search (finish_whole)
