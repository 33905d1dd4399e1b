use Rattle.undo.proofs.Reading.{buffered_outside, buffered_late, buffered_span}
use Rattle.undo.proofs.is_buffered_proper.Goals as goal

pub returns-then-not-is_address_below : goal.returns-then-not-is_address_below
returns-then-not-is_address_below c = search (buffered_outside)

pub returns-then-not-is_till_at_most : goal.returns-then-not-is_till_at_most
returns-then-not-is_till_at_most c = search (buffered_late)

pub returns : goal.returns
returns c = search (buffered_span)
