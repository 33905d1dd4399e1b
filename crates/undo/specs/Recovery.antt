-- Recovery, whatever words the undo log is packed in: the first entry that is not proper, and the stores to the lines.
use Rattle.std.specs.Prelude.{ℕ, zero, suc, ◌+◌, ◌-◌, Bool, cond, ◌&&◌, List, []}
use Rattle.base.specs.Walk.{first}
use Rattle.board.specs.Stores.{Store, one, each}
use Rattle.ranges.specs.Ranges.{Range, covers}
use Rattle.undo.specs.Entries.{proper_entry}

-- An undo log as recovery reads it: P, how many entries there are, and of each, the oldest counted 0, its range and its old
-- data.
pub record Log : Type 0 where
  pub persisted : ℕ
  pub count : ℕ
  -- whether an entry's word says a range at all
  pub formed : ℕ → Bool
  pub range : ℕ → Range
  pub old : ℕ → ℕ

-- "a ValidTill not below that of the next older entry"; the oldest has none
unfoldable pub older_till : Log → ℕ → ℕ
older_till log zero = 0
older_till log (suc i) = (log.range i).till

unfoldable pub proper_at : Log → (lines : ℕ) → ℕ → Bool
proper_at log lines i = log.formed i && proper_entry lines log.persisted (older_till log i) (log.range i)

-- "value is i of the first, oldest counted 0"; the number of entries where all are proper
unfoldable pub first_improper : Log → (lines : ℕ) → ℕ
first_improper log lines = first (proper_at log lines) log.count

-- "each entry with ValidFrom ≤ P < ValidTill has its data stored to its line": line a is at place line_at + a
unfoldable pub restore_stores : Log → (line_at : ℕ) → ℕ → List Store
restore_stores log line_at i =
    cond (covers (log.range i) log.persisted) (one (line_at + (log.range i).address) (log.old i)) []

-- "from the newest log entry to the oldest": turn j is at entry count - (j + 1)
unfoldable pub restore_turn : Log → (line_at : ℕ) → ℕ → List Store
restore_turn log line_at j = restore_stores log line_at (log.count - (j + 1))

abbrev pub restore_all : Log → (line_at : ℕ) → List Store
restore_all log line_at = each (restore_turn log line_at) log.count
