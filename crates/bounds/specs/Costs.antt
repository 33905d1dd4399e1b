-- How many board stores the steps of a call owe. A flush is charged to the entries that wait in the buffer: what a step owes, and what
-- the entries left behind it will cost, is what the entries before it would have cost, and one store more for a line. So a store that
-- flushes for the line it writes out has nothing to pay for a second flush.
use Rattle.std.specs.Prelude.{ℕ, ◌+◌, ◌*◌, ◌≤◌, cond, eqb, length}
use Rattle.undo.specs.declared.LogState.{LogState}
use Rattle.steps.specs.Effects.{Effect}

-- what a flush costs: "2b + 1 stores", and "With b = 0 it stores nothing."
unfoldable pub owed : (buffered : ℕ) → ℕ
owed buffered = cond (eqb buffered 0) 0 (2 * buffered + 1)

-- a step owes at most n stores besides the flush
abbrev pub Costs : ℕ → LogState → Effect → Type 0
Costs n u e = length e.stores + owed e.undo.buffered ≤ owed u.buffered + n
