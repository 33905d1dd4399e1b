use Rattle.slots.proofs.Sites.{among_beyond, among_twice, among_site}
use Rattle.slots.proofs.sets.site_among.Goals as goal

pub returns-then-a-b-ge-NEAR : goal.returns-then-a-b-ge-NEAR
returns-then-a-b-ge-NEAR c = search (among_beyond)

pub returns-then-is_twice : goal.returns-then-is_twice
returns-then-is_twice c = search (among_twice)

pub returns : goal.returns
returns c = search (among_site)
