-- What the functions promise that write a record into a text, and those that read one. `sets text at piece` is the text with a piece of it replaced,
-- from a place on.
use Rattle.std.specs.Prelude.{◌≡◌, ℕ, ◌+◌, ◌-◌, ◌*◌, ◌/◌, ◌%◌, ◌^◌, ◌<◌, ◌≤◌, Bool, true, false, cond, ◌&&◌, ◌||◌, List, [], ◌∷◌, ◌++◌, map, length, take, drop, replicate, ◌==◌, nat_lt, slice_index, slice_index_or, Option, is_some, IfSome, Result, Ok, Err}
use Rattle.std.proofs.lemmas.List.Edits.{sets}
use Rattle.base.specs.Every.{Every}
use Rattle.layout.specs.Bytes.{byte_bits, bytes_of_word, word_of}
use Rattle.layout.specs.Limits.{most_lines}
use Rattle.layout.specs.Memory.{lines_at}
use Rattle.status.specs.Names.{bytes}
use Rattle.status.specs.declared.Status.{Status}
use Rattle.status.specs.declared.Status.TheVariants as status
use Rattle.checks.specs.declared.Refusal.{Refusal}
use Rattle.checks.specs.declared.View.{View}
use Rattle.checks.specs.Promises.{GoodBoard, Opened}
use Rattle.checks.specs.Refusals.{board_checked}
use Rattle.picl.specs.declared.Report.{Report}
use Rattle.picl.specs.Calls.{report}
use Rattle.intel_hex.specs.declared.Reader.{Reader}
use Rattle.intel_hex.specs.declared.Taken.{Taken}
use Rattle.intel_hex.specs.Records.{digit_bits, byte_digits, digits_of, line_feed, sum_of, address_bytes, two_bytes, bank_bytes, bank_type, data_type, record_bytes}
use Rattle.intel_hex.specs.Reading.{count_in, address_in, type_in, held_in}
use Rattle.intel_hex.specs.Contents.{value_of, paired, content_of}
use Rattle.intel_hex.specs.Import.{capital, in_capitals, well_formed}
use Rattle.intel_hex.specs.Places.{last_of}
use Rattle.intel_hex.specs.Export.{most_text}

-- the figures are ten, and between them and the letters stand seven other characters
abbrev pub figures : ℕ
figures = 10

abbrev pub gap : ℕ
gap = 7

unfoldable pub gap_before : ℕ → ℕ
gap_before n = cond (nat_lt n figures) 0 gap

pub record Gap (n r : ℕ) : Type 0 where
  pub is : r ≡ gap_before n
  pub most : r ≤ gap

-- where the digits of the data begin; the digits of the last byte and the line feed; how many bytes a record of so many bytes of data has
abbrev pub data_at : ℕ
data_at = 9

abbrev pub tail_bytes : ℕ
tail_bytes = 3

abbrev pub text_bytes : (count : ℕ) → ℕ
text_bytes count = data_at + byte_digits * count + tail_bytes

-- some bytes as digits, and their sum
pub record PutsBytes (bs text : List ℕ) (at : ℕ) (text' : List ℕ) (sum : ℕ) : Type 0 where
  pub left : text' ≡ sets text at (digits_of bs)
  pub total : sum ≡ sum_of bs % 2 ^ byte_bits

-- what stands before a record's data: how many bytes of them there are, where they belong, and of which type they are
abbrev pub head_of : (count address type : ℕ) → List ℕ
head_of count address type = count ∷ (two_bytes address ++ (type ∷ []))

pub record PutsHead (count address type : ℕ) (text text' : List ℕ) (sum : ℕ) : Type 0 where
  pub left : text' ≡ sets text 0 (bytes ":" ++ digits_of (head_of count address type))
  pub total : sum ≡ sum_of (head_of count address type) % 2 ^ byte_bits

-- a text that begins with a record
pub record Puts (written text text' : List ℕ) (r : ℕ) : Type 0 where
  pub many : r ≡ length written
  pub left : text' ≡ written ++ drop (length written) text

-- 16 and 17 passed: what is known of a record's number before the record is written
pub record Numbered (lines text : List ℕ) (number last : ℕ) : Type 0 where
  pub some : 1 ≤ length lines
  pub most : length lines ≤ most_lines
  pub fits : most_text ≤ length text
  pub is_last : last ≡ last_of (length lines)
  pub within : number ≤ last

-- ---- reading

-- what a character stands for, in either case, and whether it is a digit
abbrev pub meant : ℕ → ℕ
meant c = value_of (capital c)

abbrev pub is_digit : ℕ → Bool
is_digit c = nat_lt (meant c) (2 ^ digit_bits)

pub record Means (c : ℕ) (r : Option ℕ) : Type 0 where
  pub digit : is_some r ≡ is_digit c
  pub is : IfSome r (λ v. v ≡ meant c)

unfoldable pub all_digits : List ℕ → Bool
all_digits [] = true
all_digits (c ∷ cs) = is_digit c && all_digits cs

pub record ReadsValues (characters into : List ℕ) (r : Bool) : Type 0 where
  pub all : r ≡ all_digits characters
  pub values : all_digits characters ≡ true → into ≡ map meant characters

-- values of digits
abbrev pub AreDigits : List ℕ → Type 0
AreDigits vs = Every (λ v. v < 2 ^ digit_bits) vs

-- of a number its last four bits
abbrev pub last_digit : ℕ → ℕ
last_digit v = v % 2 ^ digit_bits

pub record ReadsBytes (values into : List ℕ) (sum : ℕ) : Type 0 where
  pub bytes : into ≡ paired (map last_digit values)
  pub total : sum ≡ sum_of into % 2 ^ byte_bits

-- a test that tells whether something holds
pub record Decides (P : Type 0) (r : Bool) : Type 0 where
  pub sound : r ≡ true → P
  pub complete : P → r ≡ true

-- where in a text the digits of the count, of the address and of the type begin, and the characters of a colon and of a 0
abbrev pub count_from : ℕ
count_from = 1

abbrev pub address_from : ℕ
address_from = 3

abbrev pub type_from : ℕ
type_from = 7

abbrev pub colon_mark : ℕ
colon_mark = 58

abbrev pub zero_digit : ℕ
zero_digit = 48

-- a text that begins and ends as a record does, and has these digits for the count and the type
pub record Framed (text count kind : List ℕ) : Type 0 where
  pub colon : slice_index_or text 0 0 ≡ colon_mark
  pub count_high : slice_index_or text count_from 0 ≡ slice_index count 0
  pub count_low : slice_index_or text (count_from + 1) 0 ≡ slice_index count 1
  pub kind_high : slice_index_or text type_from 0 ≡ slice_index kind 0
  pub kind_low : slice_index_or text (type_from + 1) 0 ≡ slice_index kind 1
  pub feed : slice_index_or text (length text - 1) 0 ≡ line_feed

-- ---- the texts of lines

-- the bytes of text of two lines, and of one
abbrev pub has_lines : (text_bytes : ℕ) → Bool
has_lines n = n == most_text || n == text_bytes bytes_of_word

-- how many bytes of data a text of so many bytes has
abbrev pub count_for : (text_bytes : ℕ) → ℕ
count_for n = (n - text_bytes 0) / byte_digits

pub record LineCount (text_bytes count : ℕ) : Type 0 where
  pub is : count ≡ count_for text_bytes
  pub some : 1 ≤ count
  pub most : count ≤ record_bytes

-- the digits of a line from a place of a text on
abbrev pub line_digits : ℕ
line_digits = byte_digits * bytes_of_word

abbrev pub zeros : ℕ → List ℕ
zeros n = replicate n zero_digit

-- What is read of such a text: the digits of the first line and of the second, of the address and of the last byte. There are zeros for a second
-- line that is not there, and at the end.
abbrev pub all_read : ℕ
all_read = 3 * line_digits

abbrev pub with_place : (digits text : List ℕ) → List ℕ
with_place digits text =
    sets (sets digits (2 * line_digits) (take (byte_digits * address_bytes) (drop address_from text))) (2 * line_digits + byte_digits * address_bytes)
    (take byte_digits (drop (length text - tail_bytes) text))

abbrev pub one_line : (text : List ℕ) → List ℕ
one_line text = sets (zeros all_read) 0 (take line_digits (drop data_at text))

abbrev pub two_lines : (text : List ℕ) → List ℕ
two_lines text = sets (one_line text) line_digits (take line_digits (drop (data_at + line_digits) text))

unfoldable pub gathered : (text : List ℕ) → List ℕ
gathered text = with_place (cond (length text == most_text) (two_lines text) (one_line text)) text

-- what a record of lines says
pub record LinesRead (content held : List ℕ) (count from : ℕ) : Type 0 where
  pub type : type_in content ≡ data_type
  pub count_is : count_in content ≡ count
  pub address : address_in content ≡ from
  pub below : from < bank_bytes
  pub data_is : held_in content ≡ take count held

pub record ReadsLines (text held : List ℕ) (r : Option ℕ) : Type 0 where
  pub is : is_some r ≡ well_formed (in_capitals text)
  pub told : IfSome r (LinesRead (content_of (in_capitals text)) held (count_for (length text)))

-- ---- the text of a bank

-- what the record of a bank says
pub record BankRead (content : List ℕ) (bank : ℕ) : Type 0 where
  pub type : type_in content ≡ bank_type
  pub bank_is : word_of (held_in content) ≡ bank

pub record ReadsBank (text : List ℕ) (r : Option ℕ) : Type 0 where
  pub is : is_some r ≡ well_formed (in_capitals text)
  pub told : IfSome r (BankRead (content_of (in_capitals text)))

-- ---- a call

abbrev pub taken_as : Status → Reader → Taken
taken_as status reader = record { report = report status 0; reader = reader }

-- what a call answers of a record that is taken, or refused
abbrev pub taken_from : Reader → Result Reader Status → Taken
taken_from reader (Ok next) = taken_as status.Ok next
taken_from reader (Err why) = taken_as why reader

abbrev pub taken_by : Reader → Result Reader Refusal → Taken
taken_by reader (Ok next) = taken_as status.Ok next
taken_by reader (Err why) = record { report = report why.status why.value; reader = reader }

-- the same of a record that is put: its value is how many bytes it has
abbrev pub put_from : Result ℕ Status → Report
put_from (Ok bytes) = report status.Ok bytes
put_from (Err why) = report why 0

abbrev pub put_by : Result ℕ Refusal → Report
put_by (Ok bytes) = report status.Ok bytes
put_by (Err why) = report why.status why.value

-- the place of the line at a byte address
abbrev pub line_from : View → (upper from : ℕ) → ℕ
line_from v upper from = lines_at v.shape.entries + (bank_bytes * upper + from) / bytes_of_word

-- 20 has passed too, of so many bytes
pub record Inside (board : List ℕ) (upper from count : ℕ) (v : View) : Type 0 where
  pub good : GoodBoard (length board) v
  pub lines_whole : count ≡ bytes_of_word * (count / bytes_of_word)
  pub from_whole : from % bytes_of_word ≡ 0
  pub end : bank_bytes * upper + (from + count) ≤ bytes_of_word * v.shape.lines

-- 1, 18 and the end have passed
pub record Ready (board : List ℕ) (reader : Reader) (v : View) : Type 0 where
  pub passed : Ok v ≡ board_checked board
  pub opened : Opened board v
  pub empty : v.control.length ≡ 0
  pub before_end : reader.ended ≡ false

-- shorter than the texts of lines, and no bank's
pub record ShortText (bytes : ℕ) : Type 0 where
  pub short : bytes < text_bytes bytes_of_word
  pub no_bank : bytes ≡ text_bytes address_bytes → ⊥
