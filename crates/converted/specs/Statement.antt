-- What is claimed of a conversion beyond its contract: beside what the old power-up came to on the same board, and of
-- the board that it fills.
use Rattle.std.specs.Prelude.{ℕ, ◌<◌, ◌≡◌, Bool, cond, ◌&&◌, List, ◌++◌, ltb, leb, eqb, length, drop}
use Rattle.status.specs.declared.Status.{Status}
use Rattle.status.specs.declared.Status.TheVariants as status
use Rattle.board.specs.Stores.{Store, one, applied}
use Rattle.layout.specs.declared.Shape.{Shape}
use Rattle.layout.specs.Fields.{encode}
use Rattle.layout.specs.Limits.{most_entries}
use Rattle.layout.specs.Memory.{control_at, lines_at, board_words, shape_for, shape_in}
use Rattle.undo.specs.declared.LogState.{LogState}
use Rattle.undo.specs.Log.{emptied}
use Rattle.undo.specs.Recovery.{first_improper, restore_all}
use Rattle.convert.specs.Old.{old_control_packing, old_control_in, old_shape_in, good_old, old_undo, old_log_in}
use Rattle.convert.specs.Convert.{head_of, Conversion, refused, filled}
use Rattle.reference.specs.Machine.{resting}
use Rattle.history.specs.Machine.{recall}
use Rattle.durable.specs.View.{entries_of}
use Rattle.crash.specs.Statement.{AfterEveryList, persisted_on, line_on}
use Rattle.crash.specs.Beyond.{Whole}

-- the log that the old board's words say
abbrev pub old_undo_in : List ℕ → LogState
old_undo_in old = old_undo (old_shape_in old) (old_control_in old)

-- ---- the old power-up

-- What it came to on a board, whatever its allowance and the work memory that it was lent: refused by 1 or 3, or these
-- board stores, in order.
pub data PowerUp : Type 0 where
  stopped : (why : Status) (value : ℕ) → PowerUp
  due : List Store → PowerUp

-- "from the newest log entry to the oldest, each entry with ValidFrom ≤ P < ValidTill has its data stored to its line.
-- Then the control word: same P, start 0, length 0, always stored."
abbrev pub power_up_stores : List ℕ → LogState → List Store
power_up_stores old u =
    restore_all (old_log_in old u) (lines_at u.entries) ++ one control_at (encode old_control_packing (emptied u.control))

-- "3 entry: a log entry is not proper; value is i of the first, oldest counted 0"
unfoldable pub old_power_up : List ℕ → PowerUp
old_power_up old =
    let u = old_undo_in old in
    let i = first_improper (old_log_in old u) (old_shape_in old).lines in
    cond (good_old (length old) (old_shape_in old) (old_control_in old))
    (cond (ltb i u.control.length) (stopped status.Entry i) (due (power_up_stores old u)))
    (stopped status.Shape 0)

-- ---- beside it

-- "L above 4,095 and a second memory of another size are shape"
unfoldable pub has_place : (words : ℕ) → Shape → Bool
has_place words s = leb s.entries most_entries && eqb words (board_words s.lines s.entries)

-- refused as the power-up was, with its value; else filled with the lines of the board that it would have left
abbrev pub behind : List ℕ → PowerUp → Conversion
behind old (stopped why value) = refused why value
behind old (due stores) =
    filled
    (head_of (old_control_in old) (old_shape_in old).lines (old_shape_in old).entries ++ drop (lines_at (old_shape_in old).entries) (applied old stores))

abbrev pub beside_power_up : List ℕ → (words : ℕ) → Conversion
beside_power_up old words = cond (has_place words (old_shape_in old)) (behind old (old_power_up old)) (refused status.Shape 0)

-- ---- the board that is filled

-- N and L are those of the old board
pub record Continues (N L : ℕ) (old board : List ℕ) : Type 0 where
  -- "with the same lines, P, N and L"
  pub sizes : shape_in board ≡ shape_for N L
  pub epoch : persisted_on board ≡ (old_control_in old).persisted
  -- "a line gets the data of its oldest covering entry", and keeps its own where no entry covers P
  pub lines : (a : ℕ) → a < N → line_on L board a ≡ recall (entries_of (old_log_in old (old_undo_in old))) (old_control_in old).persisted a (line_on L old a)
  -- demand 3 and what is beyond it, from this board on: the uncached machine's p is P, and its copy p these lines
  pub demand : AfterEveryList board (resting (old_control_in old).persisted (line_on L board)) (Whole N L)
