use Rattle.picl.proofs.Calling.{judged_refused}
use Rattle.picl.proofs.epochs.scan.Goals as goal

pub scan_passed-requires : goal.scan_passed-requires
scan_passed-requires c = search (c.in-Ok.ensures)

pub returns-in-Err : goal.returns-in-Err
returns-in-Err c = search (judged_refused, c.in-Err.ensures)
