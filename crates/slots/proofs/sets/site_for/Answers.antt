use Rattle.std.proofs.Common.{rules}
use Rattle.slots.proofs.Sites.{last_word, lines_ready, set_room, line_room, site_found}
use Rattle.slots.proofs.sets.site_for.Goals as goal

pub bounds-work-at-4 : goal.bounds-work-at-4
bounds-work-at-4 c = search (last_word)

pub line_in-d-requires : goal.line_in-d-requires
line_in-d-requires c = search (lines_ready, rules)

pub site_among-requires : goal.site_among-requires
site_among-requires c = search (set_room, line_room, c.set_of-set.result, c.sets_of-sets.result, rules)

pub returns : goal.returns
returns c = search (site_found, c.sets_of-sets.result)
