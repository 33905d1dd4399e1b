-- Laws of the export beyond its contract: every record's sum (`sums`) and length (`texts_short`), and that the calls with one number after the
-- other give the file (`exported_joined`), which is read back as the board's lines (`exported_read`).
use Rattle.std.specs.Prelude.{Ok, Err, ◌≡◌, ℕ, zero, suc, ◌+◌, ◌-◌, ◌*◌, ◌/◌, ◌%◌, ◌^◌, ◌<◌, ◌≤◌, List, [], ◌∷◌, ◌++◌, length, take, drop, ◌==◌}
use Rattle.std.proofs.Math.Path.{refl}
use Rattle.std.proofs.Common.{sym, ap, ◌∙◌, arith, length-append, length-drop, take-suc, get_or-drop}
use borrow.Author.Tests.{ltb-false, le-ltb, le-leb, lt-leb}
use Rattle.std.proofs.Math.Seq.{take-append_seam, take-length}
use Rattle.base.specs.Cases.{either}
use Rattle.base.specs.Every.{Every, every_append, every_at}
use Rattle.layout.specs.Bytes.{byte_bits, bytes_of_word, bytes_of, AreBytes}
use Rattle.layout.specs.Fields.{width, unpack}
use Rattle.layout.specs.Memory.{lines_at, shape_in}
use Rattle.status.specs.declared.Status.TheVariants as status
use Rattle.checks.specs.declared.View.{View}
use Rattle.checks.specs.Refusals.{Checked, unvalued, board_checked}
use Rattle.checks.specs.View.{view_of}
use Rattle.checks.specs.Promises.{Opened}
use Rattle.checks.specs.Laws.{then_both, passed_row, board_opened}
use Rattle.picl.specs.Calls.{report}
use Rattle.intel_hex.specs.Records.{digit, byte_digits, digits_of, line_feed, text_of, sum_of, check_of, checked, address_bytes, two_bytes, record_text}
use Rattle.intel_hex.specs.Records.{bank_bytes, bank_type, bank_text, opening, data_type, record_bytes, data_text, end_text, records_from, records_of, joined, file_of}
use Rattle.intel_hex.specs.Export.{lines_on, record_at, most_text, export_rows, export_checked, text_for, export_report, export_text}
use Rattle.intel_hex.specs.Reading.{content_of, held_at, held_from, held_by, first_upper, before_check, content_for, AreWords, lines_read}
use Rattle.intel_hex.specs.Reading.{two_bytes_holds, word_bytes, pair_bytes, two_many, word_many, pair_many, record_content}

-- ---- every record is of one form

-- the last record's type
abbrev pub end_type : ℕ
end_type = 1

-- "the file closes with `:00000001FF`": the record that has no data and this type
pub end_is : end_text ≡ record_text 0 end_type []
unfolding end_text record_text text_of checked check_of sum_of digits_of digit two_bytes unpack width
end_is = refl

-- what holds of every such record of 16 bytes at most holds of every record of a file
module _ (Q : List ℕ → Type 0) (each : (address type : ℕ) (held : List ℕ) → type < 2 ^ byte_bits → AreBytes held → length held ≤ record_bytes
    → Q (record_text address type held)) where
  every_bank : (bank : ℕ) → Q (bank_text bank)
  unfolding bank_text
  every_bank bank = each 0 bank_type (two_bytes bank) (omega arith) (two_bytes_holds bank) (rw (two_many bank) (omega arith))

  every_data : (address : ℕ) (held : List ℕ) → AreBytes held → length held ≤ record_bytes → Q (data_text address held)
  unfolding data_text
  every_data address held fine few = each address data_type held (omega arith) fine few

  every_end : Q end_text
  every_end = rw end_is (each 0 end_type [] (omega arith) (λ i. omega arith) (omega arith))

  every_opening : (address : ℕ) → Every Q (opening address)
  every_opening address = either (Every Q) (address % bank_bytes == 0) (every_bank (address / bank_bytes), tt) tt

  pub every_record : (address : ℕ) (lines : List ℕ) → Every Q (records_from address lines)
  unfolding records_from
  every_record address [] = (every_end, tt)
  every_record address (x ∷ []) =
      every_append Q (opening address) (data_text address (bytes_of x) ∷ end_text ∷ []) (every_opening address)
      (every_data address (bytes_of x) (word_bytes x) (rw (word_many x) (omega arith)), (every_end, tt))
  every_record address (x ∷ y ∷ lines) =
      every_append Q (opening address) (data_text address (bytes_of x ++ bytes_of y) ∷ records_from (address + record_bytes) lines) (every_opening address)
      (every_data address (bytes_of x ++ bytes_of y) (pair_bytes x y) (rw (pair_many x y) (omega arith)), every_record (address + record_bytes) lines)

-- ---- sums

pub sum_more : (bs : List ℕ) (b : ℕ) → sum_of (bs ++ (b ∷ [])) ≡ sum_of bs + b
unfolding sum_of
sum_more [] b = omega arith
sum_more (x ∷ xs) b = rw (sum_more xs b) (omega arith)

pub checked_sum : (bs : List ℕ) → sum_of (checked bs) % 2 ^ byte_bits ≡ 0
unfolding checked check_of
checked_sum bs = rw (sum_more bs ((2 ^ byte_bits - sum_of bs % 2 ^ byte_bits) % 2 ^ byte_bits)) (omega arith)

-- "The last byte makes the sum of all bytes in a record 0 modulo 256."
abbrev pub SumsToZero : (text : List ℕ) → Type 0
SumsToZero text = sum_of (content_of text) % 2 ^ byte_bits ≡ 0

pub sums : (lines : List ℕ) → Every SumsToZero (records_of lines)
sums lines = every_record SumsToZero (λ address type held small fine few.
    rw (record_content address type held small fine (omega arith)) (checked_sum (before_check address type held))) 0 lines

-- ---- lengths

-- a colon and a line feed
abbrev pub text_marks : ℕ
text_marks = 2

-- a record's bytes but for its data: how many, where and of which type, and the last one
abbrev pub bare_bytes : ℕ
bare_bytes = held_at + 1

abbrev pub bare_text : ℕ
bare_text = text_marks + byte_digits * bare_bytes

pub digits_many : (bs : List ℕ) → length (digits_of bs) ≡ byte_digits * length bs
unfolding digits_of
digits_many [] = omega arith
digits_many (b ∷ bs) = rw (digits_many bs) (omega arith)

pub text_many : (bs : List ℕ) → length (text_of bs) ≡ text_marks + byte_digits * length bs
unfolding text_of
text_many bs = rw (length-append (digits_of bs) (line_feed ∷ []), digits_many bs) (omega arith)

pub record_length : (address type : ℕ) (held : List ℕ) → length (record_text address type held) ≡ bare_text + byte_digits * length held
unfolding record_text checked two_bytes unpack
record_length address type held =
    rw (text_many (content_for address type held), length-append held (check_of (before_check address type held) ∷ [])) (omega arith)

-- 16
pub bank_length : (bank : ℕ) → length (bank_text bank) ≡ bare_text + byte_digits * address_bytes
unfolding bank_text
bank_length bank = rw (record_length 0 bank_type (two_bytes bank), two_many bank)

-- 28
pub one_length : (address x : ℕ) → length (data_text address (bytes_of x)) ≡ bare_text + byte_digits * bytes_of_word
unfolding data_text
one_length address x = rw (record_length address data_type (bytes_of x), word_many x)

-- 44
pub two_length : (address x y : ℕ) → length (data_text address (bytes_of x ++ bytes_of y)) ≡ most_text
unfolding data_text
two_length address x y = rw (record_length address data_type (bytes_of x ++ bytes_of y), pair_many x y)

-- 12
pub end_length : length end_text ≡ bare_text
unfolding end_text
end_length = refl

-- "16 short, fewer than 44 text bytes": no record has more
abbrev pub Fitting : (text : List ℕ) → Type 0
Fitting text = length text ≤ most_text

pub texts_short : (lines : List ℕ) → Every Fitting (records_of lines)
texts_short lines = every_record Fitting (λ address type held small fine few. rw (record_length address type held) (omega arith)) 0 lines

pub record_short : (board : List ℕ) (number : ℕ) → length (record_at board number) ≤ most_text
unfolding record_at
record_short board number = every_at Fitting (records_of (lines_on board)) number [] (texts_short (lines_on board)) (omega arith)

-- ---- one call

-- how many records a board's file has: the first number that none has
abbrev pub records_on : (board : List ℕ) → ℕ
records_on board = length (records_of (lines_on board))

-- what a call gives: "the first text bytes, those of its record, and its value is their number"
unfoldable pub given : (board : List ℕ) (number : ℕ) (text : List ℕ) → List ℕ
given board number text = take (export_report board number text).value (export_text board number text)

long_passed : (board : List ℕ) (text_bytes number : ℕ) (v : View) → Ok v ≡ export_checked board text_bytes number → most_text ≤ text_bytes
unfolding export_checked
long_passed board text_bytes number v e =
    let both = then_both (board_checked board) (export_rows board text_bytes number) v e in
    ltb-false text_bytes most_text (passed_row status.Short (export_rows board text_bytes number v) v v both.here)

-- a call leaves a text as long as it was, on any board
pub text_kept : (board : List ℕ) (number : ℕ) (text : List ℕ) → length (export_text board number text) ≡ length text
unfolding export_text
text_kept board number text = go (export_checked board (length text) number) refl
  where
    go : (k : Checked) → k ≡ export_checked board (length text) number → length (text_for k (record_at board number) text) ≡ length text
    go (Err why) e = refl
    go (Ok v) e =
        let room : most_text ≤ length text = long_passed board (length text) number v e in
        rw (length-append (record_at board number) (drop (length (record_at board number)) text), length-drop (length (record_at board number)) text)
        (omega (arith, record_short board number))

-- on a board that passes 1, with a text that has room for any record
module _ (board : List ℕ) (v : View) (passed : Ok v ≡ board_checked board) (number : ℕ) (text : List ℕ) (room : most_text ≤ length text) where
  -- "17 past, no record of that number"
  module _ (past : records_on board ≤ number) where
    past_checked : export_checked board (length text) number ≡ Err (unvalued status.Past)
    unfolding export_checked
    past_checked = rw (← passed, le-ltb (length text) most_text room, le-leb (records_on board) number past)

    pub past_refused : export_report board number text ≡ report status.Past 0
    unfolding export_report
    past_refused = rw past_checked

    pub past_kept : export_text board number text ≡ text
    unfolding export_text
    past_kept = rw past_checked

  -- and, where the log is empty, each number before is that of a record
  module _ (empty : v.control.length ≡ 0) (below : number < records_on board) where
    exports_checked : export_checked board (length text) number ≡ Ok v
    unfolding export_checked
    exports_checked = rw (← passed, le-ltb (length text) most_text room, lt-leb (records_on board) number below, empty)

    pub exports_ok : export_report board number text ≡ report status.Ok (length (record_at board number))
    unfolding export_report
    exports_ok = rw exports_checked

    pub given_is : given board number text ≡ record_at board number
    unfolding given export_text
    given_is =
        rw (exports_ok, exports_checked) (take-append_seam (record_at board number) (drop (length (record_at board number)) text))

-- the lines of a board that passes 1 are as many as its shape word says
pub lines_many : (board : List ℕ) (v : View) → Opened board v → length (lines_on board) ≡ v.shape.lines
unfolding view_of
lines_many board v o = rw (o.is, length-drop (lines_at (shape_in board).entries) board) (omega (arith, (rw o.is at o.good.board_words_holds)))

-- ---- the calls one after the other

-- "one record a call, by record number from 0": what so many calls give, each with a text that it is lent
unfoldable pub exported_by : (board : List ℕ) (texts : ℕ → List ℕ) (calls : ℕ) → List (List ℕ)
exported_by board texts zero = []
exported_by board texts (suc n) = exported_by board texts n ++ (given board n (texts n) ∷ [])

-- on a board that passes 1 and 18, with texts that have room for any record
module _ (board : List ℕ) (v : View) (passed : Ok v ≡ board_checked board) (empty : v.control.length ≡ 0)
    (texts : ℕ → List ℕ) (room : (n : ℕ) → most_text ≤ length (texts n)) where
  exported_so_far : (n : ℕ) → n ≤ records_on board → exported_by board texts n ≡ take n (records_of (lines_on board))
  unfolding exported_by record_at
  exported_so_far zero h = refl
  exported_so_far (suc n) h =
      rw (exported_so_far n (omega arith), given_is board v passed n (texts n) (room n) empty h) (sym (take-suc (records_of (lines_on board)) n [] h))

  pub exported_all : exported_by board texts (records_on board) ≡ records_of (lines_on board)
  exported_all = exported_so_far (records_on board) (omega arith) ∙ take-length (records_of (lines_on board))

  -- joined, they are the file
  pub exported_joined : joined (exported_by board texts (records_on board)) ≡ file_of (lines_on board)
  exported_joined = ap joined exported_all

  -- and read back, they hold every line of the board where it belongs
  pub exported_read : AreWords board → held_by first_upper (exported_by board texts (records_on board)) ≡ held_from 0 (lines_on board)
  exported_read words =
      let lines : AreWords (lines_on board) = λ i. rw get_or-drop (words (lines_at (shape_in board).entries + i)) in
      let o = board_opened board v passed in
      rw exported_all (lines_read (lines_on board) lines (omega (arith, lines_many board v o, o.good.sizes.lines_most)))

-- such texts, for instance: one text, lent to each call as the call before has left it
unfoldable pub lent_again : (board text : List ℕ) → ℕ → List ℕ
lent_again board text zero = text
lent_again board text (suc n) = export_text board n (lent_again board text n)

pub again_room : (board text : List ℕ) → most_text ≤ length text → (n : ℕ) → most_text ≤ length (lent_again board text n)
unfolding lent_again
again_room board text room zero = room
again_room board text room (suc n) = rw (text_kept board n (lent_again board text n)) (again_room board text room n)
