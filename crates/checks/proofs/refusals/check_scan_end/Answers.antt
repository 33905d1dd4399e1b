use Rattle.checks.specs.Laws.{refused_first}
use Rattle.checks.specs.Refusals.{buffer_rows, waiting_rows}
use Rattle.checks.specs.Stages.{handed}
use Rattle.checks.proofs.Rows.{rows_behind}
use Rattle.checks.proofs.refusals.check_scan_end.Goals as goal

pub returns-in_err-check_buffer : goal.returns-in_err-check_buffer
returns-in_err-check_buffer c =
    handed _ _ _ c.from_residual.ensures.1
    (refused_first (buffer_rows c.args.view c.args.work.now c.args.registers) (waiting_rows c.args.view c.args.registers) c.args.view _ c.in_err-check_buffer.ensures)

pub returns : goal.returns
returns c =
    rows_behind (buffer_rows c.args.view c.args.work.now c.args.registers) (waiting_rows c.args.view c.args.registers)
    c.args.view _ _ c.in_ok-check_buffer.ensures c.check_waiting.ensures
