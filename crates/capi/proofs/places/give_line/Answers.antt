use mathlib.Core.Path.{sym, ◌∙◌}
use denote.Enum.Bare.{same_false}
use Rattle.status.specs.contracts.Status.{the_type}
use Rattle.capi.proofs.Laws.{answer_lent}
use Rattle.capi.proofs.Lines.{buffered_within, dirty_within, line_given}
use Rattle.capi.proofs.places.give_line.Goals as goal

pub bounds-registers-1 : goal.bounds-registers-1
bounds-registers-1 c = search (buffered_within)

pub bounds-registers-3 : goal.bounds-registers-3
bounds-registers-3 c = search (dirty_within)

pub write_answer-requires : goal.write_answer-requires
write_answer-requires c = search (answer_lent)

pub returns : goal.returns
returns c =
    line_given _ _ c.requires.answer_value _ _ _ c.requires.leaves_pass (same_false the_type _ _ (sym c.eq.ensures ∙ c.if-eq.false)) c.write_answer.ensures c.from.ensures
