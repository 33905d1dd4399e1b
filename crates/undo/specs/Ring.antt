-- A walk over the ring by places, which count from the log's first word: the step from an entry's place to that of the next.
use Rattle.std.specs.Prelude.{ℕ, ◌+◌, cond, leb}

-- end is the number of the ring's words
unfoldable pub next_place : (end at : ℕ) → ℕ
next_place end at = cond (leb end (at + 2)) 0 (at + 2)
