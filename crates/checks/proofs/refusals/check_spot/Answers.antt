use Rattle.checks.specs.Laws.{refused_first}
use Rattle.checks.specs.Promises.{count_rows}
use Rattle.checks.specs.Refusals.{buffer_rows}
use Rattle.checks.specs.Stages.{handed}
use Rattle.checks.proofs.Rows.{rows_behind}
use Rattle.checks.proofs.refusals.check_spot.Goals as goal

pub returns-in_err-check_count : goal.returns-in_err-check_count
returns-in_err-check_count c =
    handed _ _ _ c.from_residual.ensures.1
    (refused_first (count_rows c.args.view c.args.work.now c.args.registers c.args.spot) (buffer_rows c.args.view c.args.work.now c.args.registers) c.args.view _ c.in_err-check_count.ensures)

pub returns : goal.returns
returns c =
    rows_behind (count_rows c.args.view c.args.work.now c.args.registers c.args.spot) (buffer_rows c.args.view c.args.work.now c.args.registers)
    c.args.view _ _ c.in_ok-check_count.ensures c.check_buffer.ensures
