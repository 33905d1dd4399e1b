-- The board's words as recovery reads them: the durable state of the abstract cache log, and the sizes that the words keep.
-- `Reads` is what the laws of this crate are about: what a board reads as before and after a list of stores.
use Rattle.std.specs.Prelude.{ℕ, ◌+◌, ◌*◌, ◌≡◌, Bool, cond, List, length, get_or}
use Rattle.layout.specs.declared.Control.{Control}
use Rattle.layout.specs.declared.Entry as packed
use Rattle.layout.specs.Memory.{lines_at, board_words, shape_for, control_in, shape_in}
use Rattle.layout.specs.Sizes.{Sizes, Bounded}
use Rattle.layout.specs.Words.{formed}
use Rattle.ranges.specs.Ranges.{Range}
use Rattle.undo.specs.declared.LogState.{LogState}
use Rattle.undo.specs.Entries.{range_of}
use Rattle.undo.specs.Recovery.{Log}
use Rattle.undo.specs.Log.{log_in, buffered_in}
use Rattle.history.specs.Machine.{Entry, Durable}
use Rattle.base.specs.Listed.{listed}

-- ---- the undo log

abbrev pub undo_with : Control → (entries : ℕ) → LogState
undo_with c entries = record { control = c; entries = entries; buffered = 0 }

-- The range of an entry as the abstract log has it. One whose word says none is read as an empty range: so the ranges alone tell that every
-- entry's word says one.
abbrev pub range_if : (formed : Bool) → Range → Range
range_if formed r = record { address = r.address; from = cond formed r.from r.till; till = r.till }

-- whatever its words: oldest entry first
unfoldable pub entry_of : Log → ℕ → Entry
entry_of log i = record { range = range_if (log.formed i) (log.range i); old = log.old i }

abbrev pub entries_of : Log → List Entry
entries_of log = listed (entry_of log) 0 log.count

-- on the board
abbrev pub entry_at : List ℕ → LogState → ℕ → Entry
entry_at board u = entry_of (log_in board u)

abbrev pub log_of : List ℕ → LogState → List Entry
log_of board u = entries_of (log_in board u)

-- the two words of an entry: the packed one, and the old data
abbrev pub entry_with : packed.Entry → (old : ℕ) → Entry
entry_with e old = record { range = range_if (formed e) (range_of e); old = old }

unfoldable pub buffered_at : List ℕ → ℕ → Entry
buffered_at buffer i = entry_with (buffered_in buffer i) (get_or buffer (2 * i + 1) 0)

-- the first entries of the buffer
abbrev pub buffer_of : List ℕ → (count : ℕ) → List Entry
buffer_of buffer count = listed (buffered_at buffer) 0 count

-- ---- the board

-- read under another control word than its own
abbrev pub durable_with : Control → (entries : ℕ) → List ℕ → Durable
durable_with c entries board =
    record {
      persisted = c.persisted;
      log = log_of board (undo_with c entries);
      memory = λ a. get_or board (lines_at entries + a) 0;
    }

abbrev pub durable_of : (entries : ℕ) → List ℕ → Durable
durable_of entries board = durable_with (control_in board) entries board

-- ---- the sizes

-- a board that was formatted so and has only been stored to since
pub record Sized (lines entries : ℕ) (board : List ℕ) : Type 0 where
  pub sizes : Sizes lines entries
  pub words : length board ≡ board_words lines entries
  pub shape : shape_in board ≡ shape_for lines entries
  pub control : Bounded entries (control_in board)

-- ---- both

-- The board reads as the control word c and the durable state d.
pub record Reads (lines entries : ℕ) (board : List ℕ) (c : Control) (d : Durable) : Type 0 where
  pub sized : Sized lines entries board
  pub control : control_in board ≡ c
  pub durable : durable_of entries board ≡ d
