-- Where things stand in the two lent memories.
use Rattle.std.specs.Prelude.{ℕ, ◌+◌, ◌-◌, ◌*◌, ◌/◌, List, ◌++◌, length, take, drop, replicate, slice_index, slice_set}
use Rattle.layout.specs.declared.Control.{Control}
use Rattle.layout.specs.declared.Shape.{Shape}
use Rattle.layout.specs.declared.Slot.{Slot}
use Rattle.layout.specs.Limits.{word_bits, board_version, buffer_places, filter_size}
use Rattle.layout.specs.Words.{encode_shape, decode_control, decode_shape, decode_slot}

-- "Board memory, 2 + 2L + N words, in this order": the control word, the shape word, the log's entries of two words, the lines
abbrev pub control_at : ℕ
control_at = 0

abbrev pub shape_at : ℕ
shape_at = 1

abbrev pub log_at : ℕ
log_at = 2

-- an entry: its packed word, then the old data
abbrev pub entry_words : ℕ
entry_words = 2

abbrev pub lines_at : ℕ → ℕ
lines_at entries = log_at + entry_words * entries

abbrev pub board_words : ℕ → ℕ → ℕ
board_words lines entries = lines_at entries + lines

-- "Format (N, L): every board word zero, but for the shape word."
abbrev pub shape_for : (lines entries : ℕ) → Shape
shape_for lines entries = record { version = board_version; lines = lines; entries = entries }

unfoldable pub formatted : (lines entries : ℕ) → List ℕ
formatted lines entries = slice_set (replicate (board_words lines entries) 0) shape_at (encode_shape (shape_for lines entries))

abbrev pub control_in : List ℕ → Control
control_in board = decode_control (slice_index board control_at)

abbrev pub shape_in : List ℕ → Shape
shape_in board = decode_shape (slice_index board shape_at)

-- "Work memory, .. S being read from its length: per slot a slot word .. and a data word; then 32 places for undo entries". Request 3/13: the
-- filter "as 64 words after the undo places, so the work memory has 2S + 128 words". Two regions: the slots, and behind them the buffer, which
-- is the places and the filter.
abbrev pub slot_words : ℕ
slot_words = 2

-- where the filter stands in the buffer
abbrev pub filter_at : ℕ
filter_at = entry_words * buffer_places

abbrev pub filter_words : ℕ
filter_words = filter_size / word_bits

abbrev pub buffer_words : ℕ
buffer_words = filter_at + filter_words

abbrev pub work_words : ℕ → ℕ
work_words slots = slot_words * slots + buffer_words

abbrev pub slots_of : ℕ → ℕ
slots_of words = (words - buffer_words) / slot_words

-- slot k: its slot word, then the line's data
abbrev pub slot_at : ℕ → ℕ
slot_at k = slot_words * k

abbrev pub slot_in : List ℕ → ℕ → Slot
slot_in work k = decode_slot (slice_index work (slot_at k))

abbrev pub data_in : List ℕ → ℕ → ℕ
data_in work k = slice_index work (slot_at k + 1)

-- the buffer of a work memory of so many words; and the memory with another buffer
abbrev pub buffer_at : ℕ → ℕ
buffer_at words = words - buffer_words

abbrev pub buffer_in : List ℕ → List ℕ
buffer_in work = drop (buffer_at (length work)) work

unfoldable pub with_buffer : List ℕ → List ℕ → List ℕ
with_buffer work buffer = take (buffer_at (length work)) work ++ buffer
