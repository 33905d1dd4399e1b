-- Sizes and log numbers within the paper's limits: what the tests of a call tell, and what the steps behind them ask.
use Rattle.std.specs.Prelude.{◌≡◌, ℕ, ◌%◌, ◌<◌, ◌≤◌}
use Rattle.layout.specs.declared.Control.{Control}
use Rattle.layout.specs.Limits.{last_epoch, most_lines, most_entries, ways, most_slots}

-- "N lines, 1 to 65,536"; request 9/13: "L is 1 to 4,095"
pub record Sizes (lines entries : ℕ) : Type 0 where
  pub lines_some : 1 ≤ lines
  pub lines_most : lines ≤ most_lines
  pub entries_some : 1 ≤ entries
  pub entries_most : entries ≤ most_entries

-- not "P = 2^40 − 1; start ≥ L; length > L"
pub record Bounded (entries : ℕ) (c : Control) : Type 0 where
  pub start : c.start < entries
  pub length : c.length ≤ entries
  pub persisted : c.persisted < last_epoch

-- request 6/13: "S a multiple of 4, from 4 to 256"
pub record WholeSets (slots : ℕ) : Type 0 where
  pub whole : slots % ways ≡ 0
  pub some : ways ≤ slots
  pub most : slots ≤ most_slots
