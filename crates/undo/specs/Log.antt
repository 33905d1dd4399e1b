-- The undo log on the board and the undo buffer before it: where entries stand, and the stores that a flush, an advance of the
-- persisted epoch and a recovery owe.
use Rattle.std.specs.Prelude.{ℕ, zero, suc, ◌+◌, ◌-◌, ◌*◌, ◌%◌, ◌^◌, ◌<◌, ◌≤◌, ◌≡◌, Bool, false, cond, ◌||◌, List, [], ◌++◌, leb, eqb, length, get_or, set, replicate}
use Rattle.base.specs.Walk.{first}
use Rattle.board.specs.Stores.{Store, one, each, shifted}
use Rattle.layout.specs.declared.Control.{Control}
use Rattle.layout.specs.declared.Entry.{Entry}
use Rattle.layout.specs.Limits.{epoch_bits, most_entries, buffer_places}
use Rattle.layout.specs.Memory.{control_at, log_at, lines_at, entry_words}
use Rattle.layout.specs.Words.{encode_control, encode_entry, decode_entry, formed}
use Rattle.undo.specs.declared.LogState.{LogState}
use Rattle.undo.specs.Entries.{range_of, proper_word}
use Rattle.undo.specs.Recovery.{Log, restore_all}
use Rattle.undo.specs.Filter.{is_bit_of, marks, marking}

-- What holds of the log's numbers once a call's tests have passed.
pub record Sound (u : LogState) : Type 0 where
  pub persisted : u.control.persisted < 2 ^ epoch_bits
  pub some : 0 < u.entries
  pub most : u.entries ≤ most_entries
  pub begin : u.control.start < u.entries
  pub room : u.control.length + u.buffered ≤ u.entries
  pub count : u.buffered ≤ buffer_places

-- "The log is a ring: entry i of the log, 0 the oldest, is at place (start + i) mod L." The first of its two words, counted
-- from the first of the log part.
unfoldable pub place_of : LogState → ℕ → ℕ
place_of u i = entry_words * ((u.control.start + i) % u.entries)

pub record Placed (u : LogState) (i r : ℕ) : Type 0 where
  pub is : r ≡ place_of u i
  pub below : r + 1 < entry_words * u.entries

unfoldable pub entry_in : List ℕ → LogState → ℕ → Entry
entry_in board u i = decode_entry (get_or board (log_at + place_of u i) 0)

unfoldable pub old_in : List ℕ → LogState → ℕ → ℕ
old_in board u i = get_or board (log_at + place_of u i + 1) 0

-- as recovery reads it
abbrev pub log_in : List ℕ → LogState → Log
log_in board u =
    record { persisted = u.control.persisted; count = u.control.length; formed = λ i. formed (entry_in board u i); range = λ i. range_of (entry_in board u i); old = old_in board u }

-- The buffer, entry i behind i others.
unfoldable pub buffered_in : List ℕ → ℕ → Entry
buffered_in buffer i = decode_entry (get_or buffer (entry_words * i) 0)

-- "A proper buffered entry has address < N and ValidFrom < ValidTill ≤ s"; its span is one that arises
unfoldable pub buffered_proper : List ℕ → (lines epoch : ℕ) → ℕ → Bool
buffered_proper buffer lines epoch i = proper_word lines 0 epoch (buffered_in buffer i)

-- "7 buffer: a buffered entry is not proper": none of the first count is
unfoldable pub buffer_proper : List ℕ → (count lines epoch : ℕ) → Bool
buffer_proper buffer count lines epoch = leb count (first (buffered_proper buffer lines epoch) count)

-- bit i is one of those of the first count entries
unfoldable pub is_bit_buffered : List ℕ → (count i : ℕ) → Bool
is_bit_buffered buffer zero i = false
is_bit_buffered buffer (suc n) i = is_bit_buffered buffer n i || is_bit_of (buffered_in buffer n).address i

-- "14 filter, a buffered entry with either bit unset": none of the first count is
unfoldable pub buffered_marked : List ℕ → ℕ → Bool
buffered_marked buffer i = marks buffer (buffered_in buffer i).address

unfoldable pub buffer_marked : List ℕ → (count : ℕ) → Bool
buffer_marked buffer count = leb count (first (buffered_marked buffer) count)

-- "An entry goes to the buffer's end"; "A new entry for address a sets bit .. and bit .."
unfoldable pub pushed : List ℕ → ℕ → Entry → ℕ → List ℕ
pushed buffer count e old =
    marking (set (set buffer (entry_words * count) (encode_entry e)) (entry_words * count + 1) old) e.address

-- "stores each entry at the ring's end, packed word then data word": entry i of the buffer, as stores of the log part
unfoldable pub entry_stores : LogState → List ℕ → ℕ → List Store
entry_stores u buffer i =
    one (place_of u (u.control.length + i)) (get_or buffer (entry_words * i) 0)
    ++ one (place_of u (u.control.length + i) + 1) (get_or buffer (entry_words * i + 1) 0)

-- "then the control word with length + b: 2b + 1 stores; then b = 0 and the 64 buffer words are zero"; "The filter is cleared at each flush
-- with b > 0."
abbrev pub longer : Control → ℕ → Control
longer c count = record { persisted = c.persisted; start = c.start; length = c.length + count }

unfoldable pub flushed : LogState → LogState
flushed u = record { control = longer u.control u.buffered; entries = u.entries; buffered = 0 }

-- "With b = 0 it stores nothing."
unfoldable pub flush_stores : LogState → List ℕ → List Store
flush_stores u buffer =
    cond (eqb u.buffered 0) []
    (shifted log_at (each (entry_stores u buffer) u.buffered) ++ one control_at (encode_control (flushed u).control))

unfoldable pub flushed_buffer : LogState → List ℕ → List ℕ
flushed_buffer u buffer = cond (eqb u.buffered 0) buffer (replicate (length buffer) 0)

-- one entry more in the buffer
abbrev pub counted : LogState → LogState
counted u = record { control = u.control; entries = u.entries; buffered = u.buffered + 1 }

-- "the oldest run of entries with ValidTill ≤ target dropped"
unfoldable pub expired : List ℕ → LogState → (target : ℕ) → ℕ → Bool
expired board u target i = leb (entry_in board u i).till target

unfoldable pub dropped : List ℕ → LogState → (target : ℕ) → ℕ
dropped board u target = first (expired board u target) u.control.length

pub record DroppedBy (board : List ℕ) (u : LogState) (target r : ℕ) : Type 0 where
  pub is : r ≡ dropped board u target
  pub within : r ≤ u.control.length

-- "stores one control word with P = target and the oldest run .. dropped, start going up by their number, mod L"
abbrev pub advanced : LogState → ℕ → ℕ → Control
advanced u target count = record { persisted = target; start = (u.control.start + count) % u.entries; length = u.control.length - count }

unfoldable pub advance_stores : List ℕ → LogState → ℕ → List Store
advance_stores board u target = one control_at (encode_control (advanced u target (dropped board u target)))

-- "Then the control word: same P, start 0, length 0, always stored."
abbrev pub emptied : Control → Control
emptied c = record { persisted = c.persisted; start = 0; length = 0 }

unfoldable pub recover_stores : List ℕ → LogState → List Store
recover_stores board u =
    restore_all (log_in board u) (lines_at u.entries) ++ one control_at (encode_control (emptied u.control))
