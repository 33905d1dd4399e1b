-- The small arrays of words in which registers, a reader and answer cross to C, as include/picl.h documents them. An array may be longer
-- than it must be: the words behind are not touched.
use Rattle.std.specs.Prelude.{ℕ, Bool, not, ◌&&◌, List, leb, eqb, length, get_or, set}
use Rattle.layout.specs.Words.{bit}
use Rattle.checks.specs.declared.Registers.{Registers}
use Rattle.checks.specs.Registers.{given}
use Rattle.records.specs.Records.{record_bytes}
use Rattle.intel_hex.specs.declared.Reader.{Reader}

abbrev pub epoch_at : ℕ
epoch_at = 0

abbrev pub buffered_at : ℕ
buffered_at = 1

abbrev pub cursor_at : ℕ
cursor_at = 2

abbrev pub dirty_at : ℕ
dirty_at = 3

abbrev pub target_at : ℕ
target_at = 4

abbrev pub register_words : ℕ
register_words = 5

abbrev pub upper_at : ℕ
upper_at = 0

abbrev pub ended_at : ℕ
ended_at = 1

abbrev pub reader_words : ℕ
reader_words = 2

abbrev pub value_at : ℕ
value_at = 0

abbrev pub stores_at : ℕ
stores_at = 1

abbrev pub answer_words : ℕ
answer_words = 2

unfoldable pub has_answer : (answer : List ℕ) → Bool
has_answer answer = leb answer_words (length answer)

-- so many places in another array, and the answer
abbrev pub has_both : (least : ℕ) → (lent answer : List ℕ) → Bool
has_both least lent answer = leb least (length lent) && has_answer answer

abbrev pub has_places : (registers answer : List ℕ) → Bool
has_places registers answer = leb register_words (length registers) && has_answer answer

-- the bytes of a record, and the answer
abbrev pub has_record_places : (bytes answer : List ℕ) → Bool
has_record_places bytes answer = leb record_bytes (length bytes) && has_answer answer

abbrev pub has_reader_places : (reader answer : List ℕ) → Bool
has_reader_places reader answer = has_both reader_words reader answer

unfoldable pub read_registers : List ℕ → Registers
read_registers words =
    given (get_or words epoch_at 0) (get_or words buffered_at 0) (get_or words cursor_at 0) (get_or words dirty_at 0) (get_or words target_at 0)

abbrev pub write_registers : List ℕ → Registers → List ℕ
write_registers words r =
    set (set (set (set (set words epoch_at r.epoch) buffered_at r.buffered) cursor_at r.cursor) dirty_at r.dirty) target_at r.target

-- any word but 0 says that the end was seen
unfoldable pub read_reader : List ℕ → Reader
read_reader words = record { upper = get_or words upper_at 0; ended = not (eqb (get_or words ended_at 0) 0) }

abbrev pub write_reader : List ℕ → Reader → List ℕ
write_reader words r = set (set words upper_at r.upper) ended_at (bit r.ended)

abbrev pub write_answer : List ℕ → (value stores : ℕ) → List ℕ
write_answer words value stores = set (set words value_at value) stores_at stores
