use Rattle.checks.specs.Laws.{board_opened}
use Rattle.intel_hex.proofs.Exporting.{board_out, refused_out}
use Rattle.intel_hex.proofs.put.Goals as goal

pub returns-in_err-view : goal.returns-in_err-view
returns-in_err-view c = search (board_out, c.in_err-view.ensures, c.from_residual.ensures.1)

pub put_shaped-requires : goal.put_shaped-requires
put_shaped-requires c = record {
  view_value = search (c.in_ok-view.ensures);
  opened = search (board_opened, c.in_ok-view.ensures);
}

pub returns-in_err-put_shaped : goal.returns-in_err-put_shaped
returns-in_err-put_shaped c =
    search (refused_out, c.in_err-put_shaped.ensures, c.from_residual-in_err-put_shaped.ensures.1)
