use Rattle.checks.specs.Laws.{then_refused}
use Rattle.checks.specs.Refusals.{line_checked}
use Rattle.checks.specs.Stages.{handed_as, named_ready, named_persisted, named_ahead, named_spot, named_tags, set_refused, count_ready, line_staged, line_sited}
use Rattle.checks.proofs.refusals.check_line.Goals as goal

pub returns-in_err-view : goal.returns-in_err-view
unfolding line_checked
returns-in_err-view c = handed_as _ _ _ _ c.from_residual.ensures.1 (then_refused _ _ _ c.in_err-view.ensures)

pub least_tag-least-requires : goal.least_tag-least-requires
least_tag-least-requires c = search (named_persisted, c.in_ok-view.ensures)

pub tags-tags-requires : goal.tags-tags-requires
tags-tags-requires c = search (named_ahead, c.in_ok-view.ensures)

pub site_for-site-requires : goal.site_for-site-requires
site_for-site-requires c = search (named_spot, named_tags, c.in_ok-view.ensures)

pub returns-in_err-spot : goal.returns-in_err-spot
returns-in_err-spot c =
    handed_as _ _ _ _ c.from_residual-in_err-spot.ensures.1
    (set_refused _ _ _ _ _ c.in_ok-view.ensures _ _ c.least_tag-least.ensures c.tags-tags.ensures _ c.site_for-site.ensures _ c.in_err-spot.ensures)

pub check_spot-requires : goal.check_spot-requires
check_spot-requires c = record {
  rows_ready = search (named_ready, c.in_ok-view.ensures);
  count_ready = search (count_ready, c.in_ok-view.ensures, c.in_ok-spot.ensures);
}

pub returns-in_err-check_spot : goal.returns-in_err-check_spot
returns-in_err-check_spot c =
    handed_as _ _ _ _ c.from_residual-in_err-check_spot.ensures.1
    (line_staged _ _ _ _ _ c.in_ok-view.ensures _ _ c.least_tag-least.ensures c.tags-tags.ensures _ c.site_for-site.ensures _ c.in_ok-spot.ensures _ c.in_err-check_spot.ensures)

pub returns : goal.returns
returns c = search (line_sited, c.in_ok-view.ensures, c.in_ok-spot.ensures, c.in_ok-check_spot.ensures)
