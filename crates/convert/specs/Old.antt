-- Boards as they were while epochs were numbers of 24 bits: the paper's layout, limits and rules up to request 8/13,
-- where 9/13 changes them. What stands where on the board, and what recovery is, is as today.
use Rattle.std.specs.Prelude.{ℕ, ◌+◌, ◌-◌, ◌^◌, ◌<◌, refl, Bool, true, not, ◌&&◌, List, [], ◌∷◌, ltb, leb, eqb, get_or, drop}
use Rattle.std.proofs.Common.{arith}
use Rattle.board.specs.Stores.{applied}
use Rattle.ranges.specs.Ranges.{Range}
use Rattle.layout.specs.declared.Control.{Control}
use Rattle.layout.specs.declared.Shape.{Shape}
use Rattle.layout.specs.Limits.{address_bits, most_lines}
use Rattle.layout.specs.Fields.{width, unpack, Packing, decode, Fit}
use Rattle.layout.specs.Laws.{Laws, laws, shape_laws}
use Rattle.layout.specs.Words.{shape_packing, ShapeFits}
use Rattle.layout.specs.Memory.{control_at, shape_at, log_at, lines_at, board_words}
use Rattle.undo.specs.declared.LogState.{LogState}
use Rattle.undo.specs.Log.{place_of, old_in}
use Rattle.undo.specs.Recovery.{Log, restore_all}
use Rattle.convert.specs.declared.old.OldEntry.{OldEntry}

-- "EID means epoch number, 0 to 2^24 − 1."
abbrev pub old_epoch_bits : ℕ
old_epoch_bits = 24

abbrev pub old_last_epoch : ℕ
old_last_epoch = 2 ^ old_epoch_bits - 1

-- "L log entries, 1 to 65,536."
abbrev pub old_most_entries : ℕ
old_most_entries = 65536

-- the shape word's first field: "zero 24"
abbrev pub old_version : ℕ
old_version = 0

-- "Control word: P 24, log start 20, log length 20."
abbrev pub old_control_packing : Packing Control
old_control_packing = record {
  widths = old_epoch_bits ∷ 20 ∷ 20 ∷ [];
  fields = λ c. c.persisted ∷ c.start ∷ c.length ∷ [];
  of = λ vs. record { persisted = get_or vs 0 0; start = get_or vs 1 0; length = get_or vs 2 0 };
}

abbrev pub decode_old_control : ℕ → Control
decode_old_control = decode old_control_packing

pub record OldControlFits (c : Control) : Type 0 where
  pub persisted : c.persisted < 2 ^ old_epoch_bits
  pub start : c.start < 2 ^ 20
  pub length : c.length < 2 ^ 20

-- "Shape word: zero 24, N 20, L 20." It is packed as today's.
abbrev pub old_shape_packing : Packing Shape
old_shape_packing = shape_packing

abbrev pub decode_old_shape : ℕ → Shape
decode_old_shape = decode old_shape_packing

abbrev pub OldShapeFits : Shape → Type 0
OldShapeFits = ShapeFits

-- "L log entries of two words: address 16, ValidFrom 24, ValidTill 24; then the old data." This is the first word.
abbrev pub old_entry_packing : Packing OldEntry
old_entry_packing = record {
  widths = address_bits ∷ old_epoch_bits ∷ old_epoch_bits ∷ [];
  fields = λ e. e.address ∷ e.from ∷ e.till ∷ [];
  of = λ vs. record { address = get_or vs 0 0; from = get_or vs 1 0; till = get_or vs 2 0 };
}

abbrev pub decode_old_entry : ℕ → OldEntry
decode_old_entry = decode old_entry_packing

pub record OldEntryFits (e : OldEntry) : Type 0 where
  pub address : e.address < 2 ^ address_bits
  pub from : e.from < 2 ^ old_epoch_bits
  pub till : e.till < 2 ^ old_epoch_bits

abbrev pub old_range : OldEntry → Range
old_range e = record { address = e.address; from = e.from; till = e.till }

abbrev pub old_control_in : List ℕ → Control
old_control_in board = decode_old_control (get_or board control_at 0)

abbrev pub old_shape_in : List ℕ → Shape
old_shape_in board = decode_old_shape (get_or board shape_at 0)

-- "1 shape: fewer than 2 board words; 24 bits not zero; N or L out of range; wrong word count; P = 2^24 − 1; start ≥ L;
-- length > L"
unfoldable pub good_old_sizes : (words : ℕ) → Shape → Bool
good_old_sizes words s =
    leb 1 s.lines && leb s.lines most_lines && leb 1 s.entries && leb s.entries old_most_entries
    && eqb words (board_words s.lines s.entries)

unfoldable pub good_old_control : Shape → Control → Bool
good_old_control s c = not (eqb c.persisted old_last_epoch) && ltb c.start s.entries && leb c.length s.entries

unfoldable pub good_old : (words : ℕ) → Shape → Control → Bool
good_old words s c = leb log_at words && eqb s.version old_version && good_old_sizes words s && good_old_control s c

-- The log as recovery reads it. "The log is a ring: entry i of the log, 0 the oldest, is at place (start + i) mod L."
abbrev pub old_undo : Shape → Control → LogState
old_undo s c = record { control = c; entries = s.entries; buffered = 0 }

unfoldable pub old_entry_in : List ℕ → LogState → ℕ → OldEntry
old_entry_in board u i = decode_old_entry (get_or board (log_at + place_of u i) 0)

abbrev pub old_log_in : List ℕ → LogState → Log
old_log_in board u =
    record {
      persisted = u.control.persisted;
      count = u.control.length;
      formed = λ i. true;
      range = λ i. old_range (old_entry_in board u i);
      old = old_in board u;
    }

-- The lines that a recovery leaves: "from the newest log entry to the oldest, each entry with ValidFrom ≤ P < ValidTill
-- has its data stored to its line".
unfoldable pub recovered_lines : List ℕ → LogState → List ℕ
recovered_lines board u =
    drop (lines_at u.entries) (applied board (restore_all (old_log_in board u) (lines_at u.entries)))

-- ---- laws

pub old_control_laws : Laws old_control_packing OldControlFits
unfolding width unpack Fit
old_control_laws = laws (record { whole = refl; fit = λ x. omega arith; of_fields = λ x. refl; fields_of = λ w. refl })

pub old_shape_laws : Laws old_shape_packing OldShapeFits
old_shape_laws = shape_laws

pub old_entry_laws : Laws old_entry_packing OldEntryFits
unfolding width unpack Fit
old_entry_laws = laws (record { whole = refl; fit = λ x. omega arith; of_fields = λ x. refl; fields_of = λ w. refl })
