use Rattle.benchboard.proofs.Calling.{performed}
use Rattle.benchboard.proofs.perform.Goals as goal

pub returns-in-Load : goal.returns-in-Load
returns-in-Load c = search (performed)

pub returns-in-Store : goal.returns-in-Store
returns-in-Store c = search (performed)

pub returns-in-Evict : goal.returns-in-Evict
returns-in-Evict c = search (performed)

pub returns-in-Commit : goal.returns-in-Commit
returns-in-Commit c = search (performed)

pub returns-in-Scan : goal.returns-in-Scan
returns-in-Scan c = search (performed)
