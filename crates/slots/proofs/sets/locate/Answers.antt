use Rattle.slots.proofs.Sites.{site_first, site_second, site_third, site_fourth, site_taken}
use Rattle.slots.proofs.sets.locate.Goals as goal

pub returns-then-a-address : goal.returns-then-a-address
returns-then-a-address c = search (site_first)

pub returns-then-b-address : goal.returns-then-b-address
returns-then-b-address c = search (site_second)

pub returns-then-c-address : goal.returns-then-c-address
returns-then-c-address c = search (site_third)

pub returns-then-d-address : goal.returns-then-d-address
returns-then-d-address c = search (site_fourth)

pub returns : goal.returns
returns c = search (site_taken)
