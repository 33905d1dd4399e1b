use Rattle.checks.proofs.Rows.{cursor_end, bounds_ready, bounds_below, cursor_within, cursor_refused, cursor_miscounted, cursor_passed}
use Rattle.checks.proofs.refusals.check_cursor.Goals as goal

pub returns-then-k-view : goal.returns-then-k-view
returns-then-k-view c = search (cursor_end)

pub is_proper_at-requires : goal.is_proper_at-requires
is_proper_at-requires c = search (bounds_ready, bounds_below, cursor_within)

pub returns-then-not-is_proper_at : goal.returns-then-not-is_proper_at
returns-then-not-is_proper_at c = rw c.from.ensures (search (cursor_refused))

pub returns-then-is_miscounted_at : goal.returns-then-is_miscounted_at
returns-then-is_miscounted_at c = rw c.from-then-is_miscounted_at.ensures (search (cursor_miscounted))

pub returns : goal.returns
returns c = search (cursor_passed)
