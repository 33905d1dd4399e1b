-- The packed words, as the paper lists their fields. No other crate of the library knows their layout.
use Rattle.std.specs.Prelude.{◌≡◌, ℕ, ◌^◌, ◌<◌, Bool, true, false, ◌&&◌, [], ◌∷◌, ◌==◌, ◌≢◌, nat_le, slice_index}
use Rattle.layout.specs.declared.Control.{Control}
use Rattle.layout.specs.declared.Shape.{Shape}
use Rattle.layout.specs.declared.Entry.{Entry}
use Rattle.layout.specs.declared.Slot.{Slot}
use Rattle.layout.specs.declared.Record.{Record}
use Rattle.layout.specs.Limits.{epoch_bits, address_bits, spare_bits, board_version, most_lines, most_ahead}
use Rattle.layout.specs.Fields.{Packing, encode, decode}

-- What a decoding gives: the fields that its definition gives, each within its width.
pub record Decoded {A : Type 0} (Fits : A → Type 0) (fields r : A) : Type 0 where
  pub is : r ≡ fields
  pub fits : Fits r

-- request 9/13: "The control word is P 40, start 12, length 12"
abbrev pub control_packing : Packing Control
control_packing = record {
  widths = epoch_bits ∷ 12 ∷ 12 ∷ [];
  fields = λ c. c.persisted ∷ c.start ∷ c.length ∷ [];
  of = λ vs. record { persisted = slice_index vs 0; start = slice_index vs 1; length = slice_index vs 2 };
}

abbrev pub encode_control : Control → ℕ
encode_control = encode control_packing

abbrev pub decode_control : ℕ → Control
decode_control = decode control_packing

pub record ControlFits (c : Control) : Type 0 where
  pub persisted : c.persisted < 2 ^ epoch_bits
  pub start : c.start < 2 ^ 12
  pub length : c.length < 2 ^ 12

-- "Shape word: .. 24, N 20, L 20." The first field tells one board format from another.
abbrev pub shape_packing : Packing Shape
shape_packing = record {
  widths = 24 ∷ 20 ∷ 20 ∷ [];
  fields = λ s. s.version ∷ s.lines ∷ s.entries ∷ [];
  of = λ vs. record { version = slice_index vs 0; lines = slice_index vs 1; entries = slice_index vs 2 };
}

abbrev pub encode_shape : Shape → ℕ
encode_shape = encode shape_packing

abbrev pub decode_shape : ℕ → Shape
decode_shape = decode shape_packing

pub record ShapeFits (s : Shape) : Type 0 where
  pub version : s.version < 2 ^ 24
  pub lines : s.lines < 2 ^ 20
  pub entries : s.entries < 2 ^ 20

-- The number of lines of a board of this format; of another format, more than this one allows.
pub record OwnLines (s : Shape) (r : ℕ) : Type 0 where
  pub own : s.version ≡ board_version → r ≡ s.lines
  pub other : (s.version ≢ board_version) → most_lines < r

-- request 9/13: "A log entry's first word is address 16, ValidTill 40, span 8, where span is ValidTill − ValidFrom."
abbrev pub entry_packing : Packing Entry
entry_packing = record {
  widths = address_bits ∷ epoch_bits ∷ 8 ∷ [];
  fields = λ e. e.address ∷ e.till ∷ e.span ∷ [];
  of = λ vs. record { address = slice_index vs 0; till = slice_index vs 1; span = slice_index vs 2 };
}

abbrev pub encode_entry : Entry → ℕ
encode_entry = encode entry_packing

abbrev pub decode_entry : ℕ → Entry
decode_entry = decode entry_packing

pub record EntryFits (e : Entry) : Type 0 where
  pub address : e.address < 2 ^ address_bits
  pub till : e.till < 2 ^ epoch_bits
  pub span : e.span < 2 ^ 8

-- "only spans 1 to 16 arise; another, or one above its ValidTill, makes an entry improper"
unfoldable pub formed : Entry → Bool
formed e = nat_le 1 e.span && nat_le e.span most_ahead && nat_le e.span e.till

-- A flag as a field of one bit has it.
abbrev pub bit : Bool → ℕ
bit true = 1
bit false = 0

pub record IsBit (flag : Bool) (r : ℕ) : Type 0 where
  pub is : r ≡ bit flag
  pub below : r < 2 ^ 1

-- "per slot a slot word (valid 1, dirty 1, address 16, tag .., zero ..)": request 9/13, a tag of 40 bits and "6 zero bits"
abbrev pub slot_packing : Packing Slot
slot_packing = record {
  widths = 1 ∷ 1 ∷ address_bits ∷ epoch_bits ∷ spare_bits ∷ [];
  fields = λ s. bit s.valid ∷ bit s.dirty ∷ s.address ∷ s.tag ∷ s.spare ∷ [];
  of = λ vs. record { valid = (slice_index vs 0 == 1); dirty = (slice_index vs 1 == 1); address = slice_index vs 2; tag = slice_index vs 3; spare = slice_index vs 4 };
}

abbrev pub encode_slot : Slot → ℕ
encode_slot = encode slot_packing

abbrev pub decode_slot : ℕ → Slot
decode_slot = decode slot_packing

pub record SlotFits (s : Slot) : Type 0 where
  pub address : s.address < 2 ^ address_bits
  pub tag : s.tag < 2 ^ epoch_bits
  pub spare : s.spare < 2 ^ spare_bits

-- a trace's record: "two words ..: kind 3 bits .., address 16, zero 45; then the value". This is the first word.
abbrev pub record_packing : Packing Record
record_packing = record {
  widths = 3 ∷ address_bits ∷ 45 ∷ [];
  fields = λ r. r.kind ∷ r.address ∷ r.spare ∷ [];
  of = λ vs. record { kind = slice_index vs 0; address = slice_index vs 1; spare = slice_index vs 2 };
}

abbrev pub encode_record : Record → ℕ
encode_record = encode record_packing

abbrev pub decode_record : ℕ → Record
decode_record = decode record_packing

pub record RecordFits (r : Record) : Type 0 where
  pub kind : r.kind < 2 ^ 3
  pub address : r.address < 2 ^ address_bits
  pub spare : r.spare < 2 ^ 45
