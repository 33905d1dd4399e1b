use Rattle.status.proofs.Putting.{put_none, put_short, put_made}
use Rattle.status.proofs.names.put_name.Goals as goal

pub returns-then-number : goal.returns-then-number
returns-then-number c = search (put_none)

pub returns-then-text-count : goal.returns-then-text-count
returns-then-text-count c = search (put_short)

pub returns : goal.returns
returns c = search (put_made)
