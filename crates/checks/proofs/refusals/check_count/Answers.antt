use Rattle.std.proofs.Common.{rules}
use Rattle.checks.proofs.Rows.{count_words, count_refused, count_passed}
use Rattle.checks.proofs.refusals.check_count.Goals as goal

pub is_miscounted_set-requires : goal.is_miscounted_set-requires
is_miscounted_set-requires c = search (count_words, rules)

pub returns-then-is_miscounted_set : goal.returns-then-is_miscounted_set
returns-then-is_miscounted_set c = rw c.from.ensures (search (count_refused))

pub returns : goal.returns
returns c = search (count_passed)
