use Rattle.intel_hex.proofs.TextReading.{other_colon, other_count, other_count_low, other_kind, other_kind_low, framed_by_feed}
use Rattle.intel_hex.proofs.reading.is_framed.Goals as goal

pub returns-then-text-ne58 : goal.returns-then-text-ne58
returns-then-text-ne58 c = search (other_colon)

pub returns-then-text-count : goal.returns-then-text-count
returns-then-text-count c = search (other_count)

pub returns-then-text-count-2 : goal.returns-then-text-count-2
returns-then-text-count-2 c = search (other_count_low)

pub returns-then-text-kind : goal.returns-then-text-kind
returns-then-text-kind c = search (other_kind)

pub returns-then-text-kind-2 : goal.returns-then-text-kind-2
returns-then-text-kind-2 c = search (other_kind_low)

pub returns : goal.returns
returns c = search (framed_by_feed)
