use Rattle.undo.proofs.Reading.{left_start, kept_found, kept_next, kept_none}
use Rattle.undo.proofs.kept_in.Goals as goal

pub loop-rest-init : goal.loop-rest-init
loop-rest-init c = left_start c.args.entries.now c.args.target

pub returns-then-not-is_till_at_most : goal.returns-then-not-is_till_at_most
returns-then-not-is_till_at_most c = search (kept_found)

pub loop-rest-preserved : goal.loop-rest-preserved
loop-rest-preserved c = search (kept_next)

pub returns : goal.returns
returns c = search (kept_none)
