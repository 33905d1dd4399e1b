use Rattle.convert.proofs.Testing.{convert_short, convert_refused, convert_readable, convert_improper, convert_ready, convert_filled}
use Rattle.convert.proofs.try_convert.Goals as goal

pub returns-then-old-lt-LOG_AT : goal.returns-then-old-lt-LOG_AT
returns-then-old-lt-LOG_AT c = search (convert_short)

pub returns-then-not-is_convertible : goal.returns-then-not-is_convertible
returns-then-not-is_convertible c = search (convert_refused)

pub check_entries-requires : goal.check_entries-requires
check_entries-requires c = search (convert_readable)

pub returns-in_err-check_entries : goal.returns-in_err-check_entries
returns-in_err-check_entries c =
    search (convert_improper, c.in_err-check_entries.ensures, c.from_residual.ensures.1)

pub fill-requires : goal.fill-requires
fill-requires c = search (convert_ready, c.in_ok-check_entries.ensures)

pub returns : goal.returns
returns c = search (convert_filled, c.in_ok-check_entries.ensures)
