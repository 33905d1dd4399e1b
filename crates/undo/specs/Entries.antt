-- Undo entries: the range that an entry's word says, and when it is proper.
use Rattle.std.specs.Prelude.{ℕ, ◌+◌, ◌-◌, Bool, ◌&&◌, ltb}
use Rattle.ranges.specs.Ranges.{Range, proper_range}
use Rattle.layout.specs.declared.Entry.{Entry}
use Rattle.layout.specs.Limits.{most_ahead}
use Rattle.layout.specs.Words.{formed}

-- request 9/13: "span is ValidTill − ValidFrom"
abbrev pub range_of : Entry → Range
range_of e = record { address = e.address; from = e.till - e.span; till = e.till }

-- An entry's word: its span is one that arises, and its range is proper, with a ValidTill from least to most.
unfoldable pub proper_word : (lines least most : ℕ) → Entry → Bool
proper_word lines least most e = formed e && proper_range lines least most (range_of e)

-- "A proper log entry has address < N, ValidFrom < ValidTill, P < ValidTill, and a ValidTill not below that of the next
-- older entry." Request 2/13: "A log entry is now proper only if ValidTill ≤ P + 16 as well."
unfoldable pub proper_entry : (lines persisted older : ℕ) → Range → Bool
proper_entry lines persisted older r = ltb persisted r.till && proper_range lines older (persisted + most_ahead) r
