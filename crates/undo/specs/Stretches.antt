-- Undo entries as the functions of this crate walk over them: the stretches in which they stand one behind the other, and what each walk finds.
use Rattle.std.specs.Prelude.{ℕ, zero, suc, ◌+◌, ◌-◌, ◌*◌, ◌<◌, ◌≡◌, Bool, cond, List, [], ◌∷◌, leb, length, get_or}
use Rattle.board.specs.Stores.{Store, one}
use Rattle.layout.specs.declared.Entry.{Entry}
use Rattle.layout.specs.Limits.{most_ahead}
use Rattle.layout.specs.Memory.{log_at, entry_words}
use Rattle.layout.specs.Words.{decode_entry}
use Rattle.undo.specs.declared.LogState.{LogState}
use Rattle.undo.specs.Entries.{range_of, proper_word}
use Rattle.undo.specs.Log.{place_of}

-- the two words of the entry at a place
abbrev pub words_at : List ℕ → ℕ → List ℕ
words_at memory at = get_or memory at 0 ∷ get_or memory (at + 1) 0 ∷ []

-- the first words of a memory as so many entries
pub record Entries (memory : List ℕ) (count : ℕ) (entries : List (List ℕ)) : Type 0 where
  pub count_is : length entries ≡ count
  pub same : (i : ℕ) → i < count → get_or entries i [] ≡ words_at memory (entry_words * i)

-- the words of entry i of the log
abbrev pub log_words : List ℕ → LogState → ℕ → List ℕ
log_words board u i = words_at board (log_at + place_of u i)

-- the log's entries, in two parts
pub record Stretches (board : List ℕ) (u : LogState) (older newer : List (List ℕ)) : Type 0 where
  pub all : length older + length newer ≡ u.control.length
  pub none : length older ≡ 0 → length newer ≡ 0
  pub older_same : (i : ℕ) → i < length older → get_or older i [] ≡ log_words board u i
  pub newer_same : (i : ℕ) → i < length newer → get_or newer i [] ≡ log_words board u (length older + i)

-- what the packed word of entry i says
abbrev pub entry_of : List (List ℕ) → ℕ → Entry
entry_of entries i = decode_entry (get_or (get_or entries i []) 0 0)

-- the till that an entry's may not be below: that of the entry before, or the bound of the first
unfoldable pub least_till : List (List ℕ) → (bound : ℕ) → ℕ → ℕ
least_till entries bound zero = bound
least_till entries bound (suc i) = (entry_of entries i).till

unfoldable pub in_order : List (List ℕ) → (lines persisted bound : ℕ) → ℕ → Bool
in_order entries lines persisted bound i = proper_word lines (least_till entries bound i) (persisted + most_ahead) (entry_of entries i)

-- entry i is useless once the target is persisted
unfoldable pub useless_at : List (List ℕ) → (target : ℕ) → ℕ → Bool
useless_at entries target i = leb (entry_of entries i).till target

-- the restoring of an entry that ends above P, as every proper one does, to the lines
unfoldable pub restore_line : (persisted : ℕ) → Entry → (old : ℕ) → List Store
restore_line persisted e old = cond (leb (range_of e).from persisted) (one e.address old) []

-- turn j is at the entry with j others behind it
unfoldable pub restore_back : (persisted : ℕ) → List (List ℕ) → ℕ → List Store
restore_back persisted entries j =
    restore_line persisted (entry_of entries (length entries - (j + 1))) (get_or (get_or entries (length entries - (j + 1)) []) 1 0)

-- each entry is of one of so many lines
pub record AllNamed (entries : List (List ℕ)) (lines : ℕ) : Type 0 where
  pub named : (i : ℕ) → i < length entries → (entry_of entries i).address < lines
