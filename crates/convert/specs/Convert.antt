-- Request 9/13's converter: "takes a board in the old layout, recovers it by the old rules, and fills a second lent
-- memory in the new one".
use Rattle.std.specs.Prelude.{ℕ, ◌*◌, ◌≡◌, Bool, cond, ◌&&◌, List, ◌∷◌, ◌++◌, ltb, leb, eqb, length, replicate}
use Rattle.status.specs.declared.Status.{Status}
use Rattle.status.specs.declared.Status.TheVariants as status
use Rattle.layout.specs.declared.Control.{Control}
use Rattle.layout.specs.declared.Shape.{Shape}
use Rattle.layout.specs.Limits.{most_entries}
use Rattle.layout.specs.Memory.{entry_words, board_words, shape_for}
use Rattle.layout.specs.Words.{encode_control, encode_shape}
use Rattle.undo.specs.declared.LogState.{LogState}
use Rattle.undo.specs.Log.{emptied}
use Rattle.undo.specs.Recovery.{first_improper}
use Rattle.picl.specs.declared.Report.{Report}
use Rattle.picl.specs.Calls.{report}
use Rattle.convert.specs.Old.{old_control_in, old_shape_in, good_old, old_undo, old_log_in, recovered_lines}

-- 1: the old board passes it as it was, and "L above 4,095 and a second memory of another size are shape"
unfoldable pub convertible : (old_words words : ℕ) → Shape → Control → Bool
convertible old_words words s c = good_old old_words s c && leb s.entries most_entries && eqb words (board_words s.lines s.entries)

-- "the same lines, P, N and L and an empty log, start 0 and its words zero"
unfoldable pub head_of : Control → (lines entries : ℕ) → List ℕ
head_of c lines entries = encode_control (emptied c) ∷ encode_shape (shape_for lines entries) ∷ replicate (entry_words * entries) 0

unfoldable pub converted : List ℕ → LogState → (lines : ℕ) → List ℕ
converted old u lines = head_of u.control lines u.entries ++ recovered_lines old u

-- What a conversion comes to: a refusal, or what the second memory then holds.
pub data Conversion : Type 0 where
  refused : (why : Status) (value : ℕ) → Conversion
  filled : List ℕ → Conversion

-- "refusal 3 is as at power-up until now": "value is i of the first, oldest counted 0"
unfoldable pub entries_conversion : List ℕ → LogState → (lines : ℕ) → Conversion
entries_conversion old u lines =
    let i = first_improper (old_log_in old u) lines in
    cond (ltb i u.control.length) (refused status.Entry i) (filled (converted old u lines))

unfoldable pub conversion : (old : List ℕ) → (words : ℕ) → Conversion
conversion old words =
    let s = old_shape_in old in
    let c = old_control_in old in
    cond (convertible (length old) words s c) (entries_conversion old (old_undo s c) s.lines) (refused status.Shape 0)

-- "It takes no allowance and reports 0 stores."
abbrev pub conversion_report : Conversion → Report
conversion_report (refused why value) = report why value
conversion_report (filled words) = report status.Ok 0

-- "nor the second memory" is touched "by a refusal"
abbrev pub memory_after : List ℕ → Conversion → List ℕ
memory_after board (refused why value) = board
memory_after board (filled words) = words

pub record Converts (board : List ℕ) (v : Conversion) (board' : List ℕ) (r : Report) : Type 0 where
  pub answer : r ≡ conversion_report v
  pub memory : board' ≡ memory_after board v
