use Rattle.checks.specs.Laws.{board_opened}
use Rattle.intel_hex.proofs.Importing.{board_out, row_out}
use Rattle.intel_hex.proofs.taking.take.Goals as goal

pub returns-in_err-view : goal.returns-in_err-view
returns-in_err-view c = search (board_out, c.in_err-view.ensures, c.from_residual.ensures.1)

pub take-requires : goal.take-requires
take-requires c = record {
  view_value = search (c.in_ok-view.ensures);
  opened = search (board_opened, c.in_ok-view.ensures);
}

pub returns-in_err-take : goal.returns-in_err-take
returns-in_err-take c =
    search (row_out, c.in_err-take.ensures, c.from_residual-in_err-take.ensures.1)
