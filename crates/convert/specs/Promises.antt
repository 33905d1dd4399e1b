-- What the functions of this crate need, where it takes more than a line.
use Rattle.std.specs.Prelude.{ℕ, ◌<◌, ◌≤◌, ◌≡◌, true, cond, List, length, ltb, Result, Ok, Err}
use Rattle.status.specs.declared.Status.TheVariants as status
use Rattle.layout.specs.declared.Control.{Control}
use Rattle.layout.specs.Memory.{lines_at, board_words, shape_for}
use Rattle.layout.specs.Sizes.{Sizes}
use Rattle.layout.specs.Words.{ControlFits, ShapeFits}
use Rattle.undo.specs.declared.LogState.{LogState}
use Rattle.undo.specs.Log.{Sound, old_in, emptied}
use Rattle.undo.specs.Recovery.{Log, proper_at, first_improper}
use Rattle.checks.specs.declared.Refusal.{Refusal}
use Rattle.convert.specs.declared.old.OldEntry.{OldEntry}
use Rattle.convert.specs.Old.{OldEntryFits, old_entry_in, old_log_in}
use Rattle.convert.specs.Convert.{Conversion, refused, filled, memory_after}

-- a search for the first improper entry
pub record Readable (old : List ℕ) (u : LogState) : Type 0 where
  pub sound : Sound u
  pub words : lines_at u.entries ≤ length old

-- an entry that was read, and the old data behind it
pub record EntryRead (old : List ℕ) (u : LogState) (i : ℕ) (e : OldEntry) (word : ℕ) : Type 0 where
  pub entry : e ≡ old_entry_in old u i
  pub fits : OldEntryFits e
  pub held : word ≡ old_in old u i

-- "3 entry": "value is i of the first, oldest counted 0"
unfoldable pub entries_checked : Log → (lines : ℕ) → Result Unit Refusal
entries_checked log lines =
    let i = first_improper log lines in
    cond (ltb i log.count) (Err (record { status = status.Entry; value = i })) (Ok tt)

-- a recovery of so many lines: each entry is proper
pub record Recoverable (old : List ℕ) (u : LogState) (lines : ℕ) : Type 0 where
  pub sound : Sound u
  pub words : length old ≡ board_words lines u.entries
  pub proper : (i : ℕ) → i < u.control.length → proper_at (old_log_in old u) lines i ≡ true

pub record EntryReady (old : List ℕ) (u : LogState) (lines i : ℕ) : Type 0 where
  pub ready : Recoverable old u lines
  pub within : i < u.control.length

-- what stands before the lines
pub record HeadReady (head : List ℕ) (c : Control) (lines entries : ℕ) : Type 0 where
  pub words : length head ≡ lines_at entries
  pub control_fits : ControlFits (emptied c)
  pub shape_fits : ShapeFits (shape_for lines entries)

pub record FillReady (board old : List ℕ) (u : LogState) (lines : ℕ) : Type 0 where
  pub ready : Recoverable old u lines
  pub sizes : Sizes lines u.entries
  pub words : length board ≡ board_words lines u.entries

-- what the tests of 1 told
pub record Sized (board old : List ℕ) (u : LogState) (lines : ℕ) : Type 0 where
  pub sound : Sound u
  pub sizes : Sizes lines u.entries
  pub old_words : length old ≡ board_words lines u.entries
  pub words : length board ≡ board_words lines u.entries

-- what a conversion answers: nothing, or the refusal
abbrev pub filling : Conversion → Result Unit Refusal
filling (refused why value) = Err (record { status = why; value = value })
filling (filled words) = Ok tt

pub record Fills (board : List ℕ) (v : Conversion) (board' : List ℕ) (r : Result Unit Refusal) : Type 0 where
  pub answer : r ≡ filling v
  pub memory : board' ≡ memory_after board v
