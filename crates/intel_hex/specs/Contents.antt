-- Intel HEX as an import reads it, of texts in capitals: the bytes of a record's text, and which words the records of a file hold, and where. The
-- laws: what `Records` writes is read back as it was, from a digit (`digit_read`) to the lines of a file (`lines_read`). What it has in common with
-- `Reading`, which reads digits of either case, stands there.
use Rattle.std.specs.Prelude.{◌≡◌, ℕ, suc, ◌+◌, ◌*◌, ◌/◌, ◌%◌, ◌^◌, ◌<◌, ◌≤◌, Bool, true, false, cond, List, [], ◌∷◌, ◌++◌, map, length, ◌==◌}
use Rattle.std.proofs.Math.Path.{refl}
use Rattle.std.proofs.Common.{ap₂, ◌∙◌, arith, eqb-true}
use Rattle.std.proofs.lemmas.Bool.{eqb-false}
use Rattle.base.specs.Listed.{listed}
use Rattle.base.specs.Walk.{first_from, first, first_all}
use Rattle.layout.specs.Limits.{word_bits, most_lines}
use Rattle.layout.specs.Bytes.{byte_bits, bytes_of_word, bytes_of, AreBytes, bytes_cons, bytes_append, word_of_bytes}
use Rattle.layout.specs.ByteWords.{word_in, words_of, words_cons}
use Rattle.layout.specs.Fields.{unpack}
use Rattle.status.specs.Names.{bytes}
use Rattle.intel_hex.specs.Records.{digit, digit_bits, digits_of, line_feed, text_of, check_of, checked, two_bytes, record_text}
use Rattle.intel_hex.specs.Records.{bank_bytes, bank_type, bank_text, opening, data_type, record_bytes, data_text, end_text, records_from, records_of}
use Rattle.intel_hex.specs.Reading.{place_in, address_in, type_in, held_in, Held, held_from, upper_behind, first_upper}
use Rattle.intel_hex.specs.Reading.{two_bytes_holds, word_bytes, pair_bytes, two_many, word_many, pair_many, check_byte, two_read}
use Rattle.intel_hex.specs.Reading.{before_check, content_for, record_type, record_address, record_held}
use Rattle.intel_hex.specs.Reading.{AreWords, address_space, Carried, carried_on}

-- ---- digits

-- "Digits are upper case"
abbrev pub digits : List ℕ
digits = bytes "0123456789ABCDEF"

-- the number that a digit stands for; of what is no digit 16, which no digit stands for
unfoldable pub value_of : ℕ → ℕ
value_of d = place_in digits d

-- numbers in pairs, as bytes; what stands alone behind the last pair, as a line feed does, is left out
unfoldable pub paired : List ℕ → List ℕ
paired [] = []
paired (v ∷ []) = []
paired (v ∷ w ∷ vs) = (v * 2 ^ digit_bits + w) ∷ paired vs

-- the bytes that pairs of digits stand for
abbrev pub bytes_in : List ℕ → List ℕ
bytes_in ds = paired (map value_of ds)

-- ---- a record

-- its bytes: the text begins with a colon
unfoldable pub content_of : (text : List ℕ) → List ℕ
content_of [] = []
content_of (colon ∷ ds) = bytes_in ds

-- ---- a file

-- what a record holds, by its bytes and the upper address: words if it is of type 00, and else nothing
unfoldable pub record_holds : (upper : ℕ) (content : List ℕ) → List Held
record_holds upper content =
    cond (type_in content == data_type)
    (held_from (bank_bytes * upper + address_in content) (words_of (held_in content)))
    []

-- what the records of a file hold, read one after the other
unfoldable pub held_by : (upper : ℕ) (texts : List (List ℕ)) → List Held
held_by upper [] = []
held_by upper (t ∷ ts) = record_holds upper (content_of t) ++ held_by (upper_behind upper (content_of t)) ts

-- ── laws ──

-- ---- digits

-- each stands for its place, by one test of them all
abbrev read_at : ℕ → Bool
read_at n = value_of (digit n) == n

all_read : 2 ^ digit_bits ≤ first read_at (2 ^ digit_bits)
unfolding digit value_of place_in first_from
all_read = omega arith

pub digit_read : (n : ℕ) → n < 2 ^ digit_bits → value_of (digit n) ≡ n
digit_read n h = eqb-true (value_of (digit n)) n (first_all read_at (2 ^ digit_bits) all_read n h)

-- bytes come back from their digits, with any one number behind them
pub digits_read : (bs : List ℕ) (last : ℕ) → AreBytes bs → bytes_in (digits_of bs ++ (last ∷ [])) ≡ bs
unfolding paired digits_of
digits_read [] last h = refl
digits_read (b ∷ bs) last h =
    let byte : b < 2 ^ byte_bits = h 0 in
    let high : b / 2 ^ digit_bits < 2 ^ digit_bits = omega arith in
    let low : b % 2 ^ digit_bits < 2 ^ digit_bits = omega arith in
    let pair : b / 2 ^ digit_bits * 2 ^ digit_bits + b % 2 ^ digit_bits ≡ b = omega arith in
    ap₂ ◌∷◌ (rw (digit_read (b / 2 ^ digit_bits) high, digit_read (b % 2 ^ digit_bits) low) pair) (digits_read bs last (λ i. h (suc i)))

pub content_read : (bs : List ℕ) → AreBytes bs → content_of (text_of bs) ≡ bs
unfolding content_of text_of
content_read bs h = digits_read bs line_feed h

-- ---- a record

module _ (address type : ℕ) (held : List ℕ) (small : type < 2 ^ byte_bits) (fine : AreBytes held) (few : length held < 2 ^ byte_bits) where
  pub content_bytes : AreBytes (content_for address type held)
  unfolding checked
  content_bytes =
      let rest = bytes_append (two_bytes address) (type ∷ held) (two_bytes_holds address) (bytes_cons type held small fine) in
      let last = bytes_cons (check_of (before_check address type held)) [] (check_byte (before_check address type held)) (λ i. omega arith) in
      bytes_append (before_check address type held) (check_of (before_check address type held) ∷ [])
      (bytes_cons (length held) (two_bytes address ++ (type ∷ held)) few rest) last

  pub record_content : content_of (record_text address type held) ≡ content_for address type held
  unfolding record_text
  record_content = content_read (content_for address type held) content_bytes

-- a bank's record, one of data and the last one, before others
module _ (upper : ℕ) (texts : List (List ℕ)) where
  pub bank_read : (bank : ℕ) → held_by upper (bank_text bank ∷ texts) ≡ held_by (bank % bank_bytes) texts
  unfolding held_by record_holds upper_behind bank_text
  bank_read bank =
      let few : length (two_bytes bank) < 2 ^ byte_bits = rw (two_many bank) (omega arith) in
      rw (record_content 0 bank_type (two_bytes bank) (omega arith) (two_bytes_holds bank) few, record_type, record_held, two_read)

  pub data_read : (address : ℕ) (held : List ℕ) → AreBytes held → length held < 2 ^ byte_bits → held_by upper (data_text address held ∷ texts)
      ≡ held_from (bank_bytes * upper + address % bank_bytes) (words_of held) ++ held_by upper texts
  unfolding held_by record_holds upper_behind data_text
  data_read address held fine few =
      rw (record_content address data_type held (omega arith) fine few, record_type, record_address, record_held)

  pub end_read : held_by upper (end_text ∷ texts) ≡ held_by upper texts
  unfolding held_by record_holds upper_behind end_text content_of paired value_of place_in type_in
  end_read = refl

-- ---- a file

opening_read : (upper address : ℕ) (texts : List (List ℕ)) → address < address_space → Carried upper address
    → held_by upper (opening address ++ texts) ≡ held_by (address / bank_bytes) texts
opening_read upper address texts below carried = go (address % bank_bytes == 0) refl
  where
    go : (t : Bool) → (address % bank_bytes == 0) ≡ t
        → held_by upper (cond t (bank_text (address / bank_bytes) ∷ []) [] ++ texts) ≡ held_by (address / bank_bytes) texts
    go true e =
        let bank : address / bank_bytes % bank_bytes ≡ address / bank_bytes = omega arith in
        bank_read upper texts (address / bank_bytes) ∙ rw bank
    go false e = rw (carried (eqb-false (address % bank_bytes) 0 e))

pub opened_read : (upper address : ℕ) (texts : List (List ℕ)) → address < address_space → Carried upper address → (held : List ℕ) → AreBytes held
    → length held < 2 ^ byte_bits → held_by upper (opening address ++ (data_text address held ∷ texts))
    ≡ held_from address (words_of held) ++ held_by (address / bank_bytes) texts
opened_read upper address texts below carried held fine few =
    let whole : bank_bytes * (address / bank_bytes) + address % bank_bytes ≡ address = omega arith in
    opening_read upper address (data_text address held ∷ texts) below carried ∙ data_read (address / bank_bytes) texts address held fine few ∙ rw whole

file_end : (upper : ℕ) → held_by upper (end_text ∷ []) ≡ []
unfolding held_by
file_end upper = end_read upper []

-- one line's bytes are its word, and two lines' their words
pub one_word : (x : ℕ) → x < 2 ^ word_bits → words_of (bytes_of x) ≡ x ∷ []
unfolding words_of listed word_in bytes_of unpack
one_word x h = rw (word_of_bytes x h)

pub two_words : (x y : ℕ) → x < 2 ^ word_bits → y < 2 ^ word_bits → words_of (bytes_of x ++ bytes_of y) ≡ x ∷ y ∷ []
two_words x y h k = words_cons (bytes_of x) (bytes_of y) (word_many x) ∙ ap₂ ◌∷◌ (word_of_bytes x h) (one_word y k)

-- lines from an address on, where a record of two lines may begin
pub lines_from : (upper address : ℕ) (lines : List ℕ) → AreWords lines → address % record_bytes ≡ 0
    → address + bytes_of_word * length lines ≤ address_space → Carried upper address → held_by upper (records_from address lines) ≡ held_from address lines
unfolding records_from held_from
lines_from upper address [] words even room carried = file_end upper
lines_from upper address (x ∷ []) words even room carried =
    opened_read upper address (end_text ∷ []) (omega arith) carried (bytes_of x) (word_bytes x) (rw (word_many x) (omega arith))
    ∙ rw (one_word x (words 0), file_end (address / bank_bytes))
lines_from upper address (x ∷ y ∷ lines) words even room carried =
    let next : address + bytes_of_word + bytes_of_word ≡ address + record_bytes = omega arith in
    let rest =
    lines_from (address / bank_bytes) (address + record_bytes) lines (λ i. words (suc (suc i))) (omega arith) (omega arith) (carried_on address even) in
    opened_read upper address (records_from (address + record_bytes) lines) (omega arith) carried (bytes_of x ++ bytes_of y) (pair_bytes x y)
    (rw (pair_many x y) (omega arith))
    ∙ rw (two_words x y (words 0) (words 1), next, rest)

-- "line i at byte address 8i": the records of a file hold every line, in order, and nothing else
pub lines_read : (lines : List ℕ) → AreWords lines → length lines ≤ most_lines → held_by first_upper (records_of lines) ≡ held_from 0 lines
lines_read lines words most = lines_from first_upper 0 lines words (omega arith) (omega arith) (λ inside. omega arith)
