-- Intel HEX, as request 7/13 tells it: what a record is, and the records of a file of lines.
use Rattle.std.specs.Prelude.{ℕ, ◌+◌, ◌-◌, ◌*◌, ◌/◌, ◌%◌, ◌^◌, cond, List, [], ◌∷◌, ◌++◌, length, ◌==◌, slice_index}
use Rattle.layout.specs.Bytes.{byte_bits, bytes_of_word, byte_widths, bytes_of}
use Rattle.layout.specs.Fields.{unpack}
use Rattle.status.specs.Names.{bytes}

-- ---- a record

-- "Digits are upper case": the digit of a number below 16
unfoldable pub digit : ℕ → ℕ
digit n = slice_index (bytes "0123456789ABCDEF") n

abbrev pub digit_bits : ℕ
digit_bits = 4

-- each byte as two digits
abbrev pub byte_digits : ℕ
byte_digits = 2

unfoldable pub digits_of : List ℕ → List ℕ
digits_of [] = []
digits_of (b ∷ bs) = digit (b / 2 ^ digit_bits) ∷ digit (b % 2 ^ digit_bits) ∷ digits_of bs

abbrev pub line_feed : ℕ
line_feed = 10

-- "each record ends in one line feed"
unfoldable pub text_of : (content : List ℕ) → List ℕ
text_of content = bytes ":" ++ (digits_of content ++ (line_feed ∷ []))

unfoldable pub sum_of : List ℕ → ℕ
sum_of [] = 0
sum_of (b ∷ bs) = b + sum_of bs

-- "The last byte makes the sum of all bytes in a record 0 modulo 256."
unfoldable pub check_of : List ℕ → ℕ
check_of bs = (2 ^ byte_bits - sum_of bs % 2 ^ byte_bits) % 2 ^ byte_bits

unfoldable pub checked : List ℕ → List ℕ
checked bs = bs ++ (check_of bs ∷ [])

-- the lower 16 bits of a number
abbrev pub address_bytes : ℕ
address_bytes = 2

unfoldable pub two_bytes : ℕ → List ℕ
two_bytes n = unpack (byte_widths address_bytes) n

-- how many bytes of data, where they belong, of which type, and the data
unfoldable pub record_text : (address type : ℕ) (held : List ℕ) → List ℕ
record_text address type held = text_of (checked (length held ∷ (two_bytes address ++ (type ∷ held))))

-- ---- a file

-- "Each bank of 65,536 byte addresses": a record has as much of an address
abbrev pub bank_bytes : ℕ
bank_bytes = 65536

-- "opens with a type 04 record", which says which bank it is
abbrev pub bank_type : ℕ
bank_type = 4

unfoldable pub bank_text : (bank : ℕ) → List ℕ
bank_text bank = record_text 0 bank_type (two_bytes bank)

abbrev pub opening : (address : ℕ) → List (List ℕ)
opening address = cond (address % bank_bytes == 0) (bank_text (address / bank_bytes) ∷ []) []

-- "then type 00 records of 16 bytes (8 for an odd last line)"; "Bytes of a line go most significant first"
abbrev pub data_type : ℕ
data_type = 0

abbrev pub record_lines : ℕ
record_lines = 2

abbrev pub record_bytes : ℕ
record_bytes = record_lines * bytes_of_word

unfoldable pub data_text : (address : ℕ) (held : List ℕ) → List ℕ
data_text address held = record_text address data_type held

-- "the file closes with `:00000001FF`"
unfoldable pub end_text : List ℕ
end_text = bytes ":00000001FF" ++ (line_feed ∷ [])

-- the records of some lines, the first at a byte address
unfoldable pub records_from : (address : ℕ) (lines : List ℕ) → List (List ℕ)
records_from address [] = end_text ∷ []
records_from address (x ∷ []) = opening address ++ (data_text address (bytes_of x) ∷ end_text ∷ [])
records_from address (x ∷ y ∷ lines) =
    opening address ++ (data_text address (bytes_of x ++ bytes_of y) ∷ records_from (address + record_bytes) lines)

-- "line i at byte address 8i"
abbrev pub records_of : (lines : List ℕ) → List (List ℕ)
records_of lines = records_from 0 lines

unfoldable pub joined : List (List ℕ) → List ℕ
joined [] = []
joined (t ∷ ts) = t ++ joined ts

abbrev pub file_of : (lines : List ℕ) → List ℕ
file_of lines = joined (records_of lines)
