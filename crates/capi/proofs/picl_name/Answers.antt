use Rattle.capi.proofs.Laws.{answer_tested}
use Rattle.capi.proofs.Naming.{name_unanswered, name_unfit, name_given}
use Rattle.capi.proofs.picl_name.Goals as goal

pub returns-then-not-has_answer : goal.returns-then-not-has_answer
returns-then-not-has_answer c = search (name_unanswered)

pub returns-then-text-letters : goal.returns-then-text-letters
returns-then-text-letters c = search (name_unfit)

pub report-requires : goal.report-requires
report-requires c = search (answer_tested)

pub returns : goal.returns
returns c = search (name_given)
