-- "A reader takes one record a call and carries the upper address and whether the end was seen": which texts are records, when one is refused, and
-- what it leaves.
use Rattle.std.specs.Prelude.{Ok, Err, ◌≡◌, ℕ, ◌+◌, ◌*◌, ◌/◌, ◌%◌, ◌^◌, Bool, true, false, not, ◌&&◌, ◌||◌, List, [], ◌∷◌, map, take, ◌==◌, nat_lt, slice_index_or}
use Rattle.layout.specs.Bytes.{byte_bits, bytes_of_word}
use Rattle.layout.specs.Memory.{lines_at}
use Rattle.status.specs.declared.Status.TheVariants as status
use Rattle.status.specs.Names.{bytes}
use Rattle.board.specs.Stores.{Store, applied}
use Rattle.checks.specs.declared.View.{View}
use Rattle.checks.specs.Refusals.{Checked, Row, row, then, board_checked}
use Rattle.picl.specs.declared.Report.{Report}
use Rattle.picl.specs.Calls.{report}
use Rattle.intel_hex.specs.declared.Reader.{Reader}
use Rattle.intel_hex.specs.declared.Taken.{Taken}
use Rattle.intel_hex.specs.Records.{address_bytes, record_text, bank_bytes, bank_type, data_type, record_bytes}
use Rattle.intel_hex.specs.Contents.{digits}
use Rattle.intel_hex.specs.Laws.{end_type}
use Rattle.intel_hex.specs.Reading.{place_in, count_in, address_in, type_in, held_in, Held, upper_behind, first_upper}
use Rattle.intel_hex.specs.Contents.{content_of, record_holds}

-- ---- a call's text

-- "in either case of digits"
abbrev pub small_digits : List ℕ
small_digits = bytes "0123456789abcdef"

-- a small letter that is a digit as the capital one, and every other character as it is
unfoldable pub capital : ℕ → ℕ
capital c = slice_index_or digits (place_in small_digits c) c

abbrev pub in_capitals : List ℕ → List ℕ
in_capitals text = map capital text

unfoldable pub are_bytes : List ℕ → Bool
are_bytes [] = true
are_bytes (b ∷ bs) = nat_lt b (2 ^ byte_bits) && are_bytes bs

unfoldable pub same : List ℕ → List ℕ → Bool
same [] [] = true
same [] (y ∷ ys) = false
same (x ∷ xs) [] = false
same (x ∷ xs) (y ∷ ys) = x == y && same xs ys

-- "A call's text is one record and its line feed": what 7/13 writes of the content that the text has, with "The last byte makes the sum of all bytes
-- in a record 0 modulo 256"
unfoldable pub is_record : (text : List ℕ) → Bool
is_record text =
    let content = content_of text in are_bytes content && same text (record_text (address_in content) (type_in content) (held_in content))

-- "type 00 with 8 or 16 bytes, or types 04 and 01 with address 0000 and 2 or no bytes"
unfoldable pub is_offered : (content : List ℕ) → Bool
is_offered content =
    let type = type_in content in
    let count = count_in content in
    (type == data_type) && (count == bytes_of_word || count == record_bytes)
    || address_in content == 0 && (type == bank_type && count == address_bytes || type == end_type && count == 0)

unfoldable pub well_formed : (text : List ℕ) → Bool
well_formed text = is_record text && is_offered (content_of text)

-- ---- when it is refused

-- "data not at a multiple of 8, running over its bank or past the last line": so many bytes from a place of a bank on
abbrev pub is_past : (lines upper from count : ℕ) → Bool
is_past lines upper from count =
    not (from % bytes_of_word == 0) || nat_lt bank_bytes (from + count) || nat_lt (bytes_of_word * lines) (bank_bytes * upper + (from + count))

unfoldable pub is_outside : (lines upper : ℕ) (content : List ℕ) → Bool
is_outside lines upper content = type_in content == data_type && is_past lines upper (address_in content) (count_in content)

-- "19 record, a malformed record, a wrong sum or one after the end; 20 outside ..; after 1 and 18, in this order, and it refuses by no other"
abbrev pub import_rows : Reader → (text : List ℕ) → View → List Row
import_rows reader text v =
    row (not (v.control.length == 0)) status.LogHeld
    ∷ row (reader.ended || not (well_formed text)) status.Record
    ∷ row (is_outside v.shape.lines reader.upper (content_of text)) status.Outside
    ∷ []

unfoldable pub import_checked : (board : List ℕ) → Reader → (text : List ℕ) → Checked
import_checked board reader text = then (board_checked board) (import_rows reader (in_capitals text))

-- ---- what it leaves

-- "carries the upper address and whether the end was seen, first 0 and no"
abbrev pub first_reader : Reader
first_reader = record { upper = first_upper; ended = false }

-- "unchanged by a refusal"
abbrev pub reader_for : Checked → Reader → (content : List ℕ) → Reader
reader_for (Err why) reader content = reader
reader_for (Ok v) reader content = record { upper = upper_behind reader.upper content; ended = (type_in content == end_type) }

-- "line i at byte address 8i", the first of them at place first
abbrev pub line_store : (first : ℕ) → Held → Store
line_store first h = record { at = first + h.address / bytes_of_word; word = h.word }

-- "A record is stored whole or not at all."
abbrev pub stores_for : Checked → Reader → (content : List ℕ) → List Store
stores_for (Err why) reader content = []
stores_for (Ok v) reader content = map (line_store (lines_at v.shape.entries)) (record_holds reader.upper content)

-- "It counts as formatting: no allowance, 0 stores reported"
abbrev pub report_for : Checked → Report
report_for (Err why) = report why.status why.value
report_for (Ok v) = report status.Ok 0

unfoldable pub import_report : (board : List ℕ) → Reader → (text : List ℕ) → Report
import_report board reader text = report_for (import_checked board reader text)

unfoldable pub import_reader : (board : List ℕ) → Reader → (text : List ℕ) → Reader
import_reader board reader text = reader_for (import_checked board reader text) reader (content_of (in_capitals text))

unfoldable pub import_stores : (board : List ℕ) → Reader → (text : List ℕ) → List Store
import_stores board reader text = stores_for (import_checked board reader text) reader (content_of (in_capitals text))

unfoldable pub import_board : (board : List ℕ) → Reader → (text : List ℕ) → List ℕ
import_board board reader text = applied board (import_stores board reader text)

-- "no protection against a cut": the board where the current goes once so many of the stores are made
unfoldable pub import_cut : (board : List ℕ) → Reader → (text : List ℕ) → (made : ℕ) → List ℕ
import_cut board reader text made = applied board (take made (import_stores board reader text))

-- what the call promises, on every board, reader and text
pub record Imports (board : List ℕ) (reader : Reader) (text board' : List ℕ) (r : Taken) : Type 0 where
  pub report : r.report ≡ import_report board reader text
  pub reader_left : r.reader ≡ import_reader board reader text
  pub board_left : board' ≡ import_board board reader text

-- ---- a file

-- an import under way: the board, and the reader that the last call returned
pub record Importing : Type 0 where
  pub board : List ℕ
  pub reader : Reader

-- a call with one text, and the calls with one text after the other
abbrev pub behind_text : Importing → (text : List ℕ) → Importing
behind_text s t = record { board = import_board s.board s.reader t; reader = import_reader s.board s.reader t }

unfoldable pub imported : Importing → (texts : List (List ℕ)) → Importing
imported s [] = s
imported s (t ∷ ts) = imported (behind_text s t) ts

-- what they report
unfoldable pub reports_of : Importing → (texts : List (List ℕ)) → List Report
reports_of s [] = []
reports_of s (t ∷ ts) = import_report s.board s.reader t ∷ reports_of (behind_text s t) ts
