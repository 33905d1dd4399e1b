use Rattle.checks.proofs.Checking.{entries_sound, entries_words, entries_refused, entries_passed}
use Rattle.checks.proofs.refusals.check_entries.Goals as goal

pub first_improper-found-requires : goal.first_improper-found-requires
first_improper-found-requires c = search (entries_sound, entries_words)

pub returns-then-found-view : goal.returns-then-found-view
returns-then-found-view c = search (entries_refused)

pub returns : goal.returns
returns c = search (entries_passed)
