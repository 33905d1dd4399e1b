use Rattle.picl.proofs.Asking.{filter_refused, filter_counted, buffer_within, buffer_lent}
use Rattle.picl.proofs.memory.filter_bits.Goals as goal

pub returns-then-not-is_good_work : goal.returns-then-not-is_good_work
returns-then-not-is_good_work c = search (filter_refused)

pub buffer_at-at-requires : goal.buffer_at-at-requires
buffer_at-at-requires c = search (buffer_within)

pub bits_set-requires : goal.bits_set-requires
bits_set-requires c = search (buffer_lent)

pub returns : goal.returns
returns c = search (filter_counted)
