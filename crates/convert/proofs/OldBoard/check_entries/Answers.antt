use Rattle.convert.proofs.Searching.{search_start, search_end, search_found, search_next}
use Rattle.convert.proofs.OldBoard.check_entries.Goals as goal

pub loop-i-init : goal.loop-i-init
loop-i-init c = search (search_start)

pub loop-i-preserved : goal.loop-i-preserved
loop-i-preserved c = search (search_next)

pub returns-then-not-is_proper : goal.returns-then-not-is_proper
returns-then-not-is_proper c = search (search_found)

pub returns : goal.returns
returns c = search (search_end)
