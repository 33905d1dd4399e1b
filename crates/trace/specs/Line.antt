-- The line that is printed, put into a buffer.
use Rattle.std.specs.Prelude.{ℕ, ◌+◌, ◌*◌, List, [], ◌∷◌, length}
use Rattle.status.specs.declared.Status.{Status}
use Rattle.status.specs.Names.{most_letters}
use Rattle.text.specs.Text.{line_feed, number_bytes, numbers_text, name_text}
use Rattle.text.specs.Printing.{Prints, prints_then}
use Rattle.trace.specs.declared.Totals.{Totals}
use Rattle.trace.specs.Run.{line_text}

-- the most bytes of a line: a name, four numbers with a space before each, and the line feed
abbrev pub longest : ℕ
longest = most_letters + (number_bytes * 4 + 1)

abbrev totals_in : Totals → List ℕ
totals_in t = t.loads ∷ t.stores ∷ t.evictions ∷ t.scans ∷ []

pub line_printed : (status : Status) (t : Totals) (out out' out'' out''' : List ℕ) (at p q r : ℕ) → Prints most_letters out at (name_text status) out' p
    → Prints (number_bytes * length (totals_in t)) out' p (numbers_text (totals_in t)) out'' q → Prints 1 out'' q (line_feed ∷ []) out''' r
    → Prints longest out at (line_text status t) out''' r
unfolding line_text
line_printed status t out out' out'' out''' at p q r a b d = prints_then a (prints_then b d)
