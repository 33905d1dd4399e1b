-- Request 10/13: what the crash rule says of a board that was imported from Intel HEX. The theorem is `after_imports`, in proofs/.
use Rattle.std.specs.Prelude.{ℕ, ◌≡◌, List}
use Rattle.intel_hex.specs.Import.{import_cut, Importing, imported}
use Rattle.reference.specs.Machine.{resting}
use Rattle.crash.specs.Statement.{AfterEveryList, persisted_on, line_on}
use Rattle.crash.specs.Beyond.{Whole, Rests}

-- ---- the statement

-- "After its records a power-up comes before any other call: the crash rule starts again, the uncached loom's p being
-- the board's P and copy p the board's lines as they then stand."
pub record StartsAgain (N L : ℕ) (given board : List ℕ) : Type 0 where
  pub rests : Rests N L board
  pub epoch : persisted_on board ≡ persisted_on given
  pub crash_rule : AfterEveryList board (resting (persisted_on given) (line_on L board)) (Whole N L)

-- behind any texts, each accepted or refused
pub record AfterTexts (N L : ℕ) (s : Importing) (texts : List (List ℕ)) : Type 0 where
  pub after_records : StartsAgain N L s.board (imported s texts).board
  -- "no protection against a cut": wherever the current goes within one more record
  pub after_cut : let t = imported s texts in
      (text : List ℕ) (made : ℕ) → StartsAgain N L s.board (import_cut t.board t.reader text made)

-- on a board that passes 1 and 18, from any reader on
abbrev pub AfterImports : Type 0
AfterImports = (N L : ℕ) (s : Importing) → Rests N L s.board → (texts : List (List ℕ)) → AfterTexts N L s texts
