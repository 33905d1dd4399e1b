use Rattle.base.specs.Tests.{tests}
use Rattle.ranges.specs.Ranges.{proper_range}
use Rattle.undo.specs.Entries.{proper_entry}
use Rattle.convert.proofs.is_proper.Goals as goal

pub returns-then-entry-persisted : goal.returns-then-entry-persisted
unfolding proper_entry proper_range
returns-then-entry-persisted c = search tests

pub returns-then-entry-lines : goal.returns-then-entry-lines
unfolding proper_entry proper_range
returns-then-entry-lines c = search tests

pub returns-then-entry : goal.returns-then-entry
unfolding proper_entry proper_range
returns-then-entry c = search tests

pub returns-then-entry-older : goal.returns-then-entry-older
unfolding proper_entry proper_range
returns-then-entry-older c = search tests

pub returns : goal.returns
unfolding proper_entry proper_range
returns c = search tests
