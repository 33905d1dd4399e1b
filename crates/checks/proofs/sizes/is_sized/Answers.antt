use Rattle.checks.proofs.Testing.{lines_beyond, entries_beyond, sizes_words}
use Rattle.checks.proofs.sizes.is_sized.Goals as goal

pub returns-then-wrapping_sub_u64-ge-MOST_LINES : goal.returns-then-wrapping_sub_u64-ge-MOST_LINES
returns-then-wrapping_sub_u64-ge-MOST_LINES c = search (lines_beyond)

pub returns-then-entries-gt-MOST_ENTRIES : goal.returns-then-entries-gt-MOST_ENTRIES
returns-then-entries-gt-MOST_ENTRIES c = search (entries_beyond)

pub returns : goal.returns
returns c = search (sizes_words)
