use Rattle.std.specs.Prelude.{◌++◌}
use Rattle.checks.specs.Laws.{refused_first}
use Rattle.checks.specs.Refusals.{cursor_rows, buffer_rows, waiting_rows}
use Rattle.checks.specs.Stages.{handed}
use Rattle.checks.proofs.Rows.{rows_behind}
use Rattle.checks.proofs.refusals.check_visit.Goals as goal

pub returns-in_err-check_cursor : goal.returns-in_err-check_cursor
returns-in_err-check_cursor c =
    handed _ _ _ c.from_residual.ensures.1
    (refused_first (cursor_rows c.args.view c.args.work.now c.args.registers)
    (buffer_rows c.args.view c.args.work.now c.args.registers ++ waiting_rows c.args.view c.args.registers) c.args.view _ c.in_err-check_cursor.ensures)

pub returns : goal.returns
returns c =
    rows_behind (cursor_rows c.args.view c.args.work.now c.args.registers)
    (buffer_rows c.args.view c.args.work.now c.args.registers ++ waiting_rows c.args.view c.args.registers)
    c.args.view _ _ c.in_ok-check_cursor.ensures c.check_scan_end.ensures
