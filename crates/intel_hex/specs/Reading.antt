-- Intel HEX read back: the bytes of a record's text, and which words the records of a file hold, and where. The laws: what `Records` writes is read
-- back as it was, from a digit (`digit_read`) to the lines of a file (`lines_read`).
use Rattle.std.specs.Prelude.{◌≡◌, ℕ, zero, suc, ◌+◌, ◌-◌, ◌*◌, ◌/◌, ◌%◌, ◌^◌, ◌<◌, ◌≤◌, min, Bool, true, false, cond, ◌≢◌, List, [], ◌∷◌, ◌++◌, length, take, drop, ◌==◌, slice_index, slice_index_or}
use Rattle.std.proofs.Math.Path.{refl}
use Rattle.std.proofs.Common.{ap, ap₂, ◌∙◌, arith, mod-lt, eqb-true, pow_pos}
use Rattle.std.proofs.lemmas.Bool.{eqb-false}
use Rattle.std.proofs.Math.Seq.{take-append_seam}
use Rattle.base.specs.Walk.{first_from, first, first_all}
use Rattle.layout.specs.Limits.{word_bits, most_lines}
use Rattle.layout.specs.Bytes.{byte_bits, bytes_of_word, byte_widths, bytes_of, word_of, AreBytes, bytes_cons, bytes_append, unpacked_bytes, word_of_bytes}
use Rattle.layout.specs.Fields.{width, unpack, pack_unpack}
use Rattle.status.specs.Names.{bytes}
use Rattle.intel_hex.specs.Records.{digit, digit_bits, digits_of, line_feed, text_of, sum_of, check_of, checked, address_bytes, two_bytes, record_text}
use Rattle.intel_hex.specs.Records.{bank_bytes, bank_type, bank_text, opening, data_type, record_bytes, data_text, end_text, records_from, records_of}

-- ---- digits

abbrev pub upper_digits : List ℕ
upper_digits = bytes "0123456789ABCDEF"

abbrev pub lower_digits : List ℕ
lower_digits = bytes "0123456789abcdef"

-- the first place of a number in a list, or the list's length
unfoldable pub place_in : List ℕ → ℕ → ℕ
place_in [] d = 0
place_in (x ∷ xs) d = cond (d == x) 0 (suc (place_in xs d))

-- the number that a digit stands for, "in either case of digits"; of what is no digit 16, which no digit stands for
unfoldable pub value_of : ℕ → ℕ
value_of d = min (place_in upper_digits d) (place_in lower_digits d)

-- the bytes that pairs of digits stand for; what stands alone behind the last pair, as a line feed does, is left out
unfoldable pub bytes_in : List ℕ → List ℕ
bytes_in [] = []
bytes_in (d ∷ []) = []
bytes_in (d ∷ e ∷ ds) = (value_of d * 2 ^ digit_bits + value_of e) ∷ bytes_in ds

-- ---- a record

-- its bytes: the text begins with a colon
unfoldable pub content_of : (text : List ℕ) → List ℕ
content_of [] = []
content_of (colon ∷ ds) = bytes_in ds

-- among them: how many bytes of data, where they belong, of which type, and the data
abbrev pub count_at : ℕ
count_at = 0

abbrev pub address_at : ℕ
address_at = 1

abbrev pub type_at : ℕ
type_at = address_at + address_bytes

abbrev pub held_at : ℕ
held_at = type_at + 1

unfoldable pub count_in : (content : List ℕ) → ℕ
count_in content = slice_index content count_at

unfoldable pub address_in : (content : List ℕ) → ℕ
address_in content = word_of (take address_bytes (drop address_at content))

unfoldable pub type_in : (content : List ℕ) → ℕ
type_in content = slice_index content type_at

unfoldable pub held_in : (content : List ℕ) → List ℕ
held_in content = take (count_in content) (drop held_at content)

-- ---- a file

-- a word, and the byte address at which it stands
pub record Held : Type 0 where
  pub address : ℕ
  pub word : ℕ

-- words from a byte address on, each behind the one before
unfoldable pub held_from : (address : ℕ) (words : List ℕ) → List Held
held_from address [] = []
held_from address (w ∷ ws) = record { address = address; word = w } ∷ held_from (address + bytes_of_word) ws

-- so many words, of their bytes
unfoldable pub words_of : (many : ℕ) (held : List ℕ) → List ℕ
words_of zero held = []
words_of (suc n) held = word_of (take bytes_of_word held) ∷ words_of n (drop bytes_of_word held)

-- what a record holds, by its bytes and the upper address: words if it is of type 00, and else nothing
unfoldable pub record_holds : (upper : ℕ) (content : List ℕ) → List Held
record_holds upper content =
    cond (type_in content == data_type)
    (held_from (bank_bytes * upper + address_in content) (words_of (count_in content / bytes_of_word) (held_in content)))
    []

-- the upper address behind it: a record of type 04 sets it
unfoldable pub upper_behind : (upper : ℕ) (content : List ℕ) → ℕ
upper_behind upper content = cond (type_in content == bank_type) (word_of (held_in content)) upper

-- what the records of a file hold, read one after the other
unfoldable pub held_by : (upper : ℕ) (texts : List (List ℕ)) → List Held
held_by upper [] = []
held_by upper (t ∷ ts) = record_holds upper (content_of t) ++ held_by (upper_behind upper (content_of t)) ts

-- "the upper address .., first 0"
abbrev pub first_upper : ℕ
first_upper = 0

-- ── laws ──

-- ---- digits

-- the digits of a case: each stands for its place, by one test of them all
abbrev read_at : (digits : List ℕ) (n : ℕ) → Bool
read_at digits n = value_of (slice_index digits n) == n

all_read : (digits : List ℕ) → 2 ^ digit_bits ≤ first (read_at digits) (2 ^ digit_bits) → (n : ℕ) → n < 2 ^ digit_bits
    → value_of (slice_index digits n) ≡ n
all_read digits all n h = eqb-true (value_of (slice_index digits n)) n (first_all (read_at digits) (2 ^ digit_bits) all n h)

pub digit_read : (n : ℕ) → n < 2 ^ digit_bits → value_of (digit n) ≡ n
unfolding digit value_of place_in first_from
digit_read n h = all_read upper_digits (omega arith) n h

pub lower_read : (n : ℕ) → n < 2 ^ digit_bits → value_of (slice_index lower_digits n) ≡ n
unfolding value_of place_in first_from
lower_read n h = all_read lower_digits (omega arith) n h

-- bytes come back from their digits, with any one number behind them
pub digits_read : (bs : List ℕ) (last : ℕ) → AreBytes bs → bytes_in (digits_of bs ++ (last ∷ [])) ≡ bs
unfolding bytes_in digits_of
digits_read [] last h = refl
digits_read (b ∷ bs) last h =
    let byte : b < 2 ^ byte_bits = h 0 in
    let high : b / 2 ^ digit_bits < 2 ^ digit_bits = omega arith in
    let low : b % 2 ^ digit_bits < 2 ^ digit_bits = omega arith in
    let pair : b / 2 ^ digit_bits * 2 ^ digit_bits + b % 2 ^ digit_bits ≡ b = omega arith in
    ap₂ ◌∷◌ (rw (digit_read (b / 2 ^ digit_bits) high, digit_read (b % 2 ^ digit_bits) low) pair) (digits_read bs last (λ i. h (suc i)))

pub content_read : (bs : List ℕ) → AreBytes bs → content_of (text_of bs) ≡ bs
unfolding content_of text_of
content_read bs h = digits_read bs line_feed h

-- ---- bytes

pub two_bytes_holds : (n : ℕ) → AreBytes (two_bytes n)
unfolding two_bytes
two_bytes_holds n = unpacked_bytes address_bytes n

pub word_bytes : (word : ℕ) → AreBytes (bytes_of word)
unfolding bytes_of
word_bytes word = unpacked_bytes bytes_of_word word

pub pair_bytes : (x y : ℕ) → AreBytes (bytes_of x ++ bytes_of y)
pair_bytes x y = bytes_append (bytes_of x) (bytes_of y) (word_bytes x) (word_bytes y)

-- and how many they are
pub two_many : (n : ℕ) → length (two_bytes n) ≡ address_bytes
unfolding two_bytes unpack
two_many n = refl

pub word_many : (word : ℕ) → length (bytes_of word) ≡ bytes_of_word
unfolding bytes_of unpack
word_many word = refl

pub pair_many : (x y : ℕ) → length (bytes_of x ++ bytes_of y) ≡ record_bytes
unfolding bytes_of unpack
pair_many x y = refl

pub check_byte : (bs : List ℕ) → check_of bs < 2 ^ byte_bits
unfolding check_of
check_byte bs = mod-lt (2 ^ byte_bits - sum_of bs % 2 ^ byte_bits) (pow_pos byte_bits)

-- the lower 16 bits of a number come back from its two bytes
pub two_read : (n : ℕ) → word_of (two_bytes n) ≡ n % bank_bytes
unfolding word_of two_bytes unpack width
two_read n = pack_unpack (byte_widths address_bytes) n

-- ---- a record

-- the bytes of a record that `record_text` writes, before the last and with it
abbrev pub before_check : (address type : ℕ) (held : List ℕ) → List ℕ
before_check address type held = length held ∷ (two_bytes address ++ (type ∷ held))

abbrev pub content_for : (address type : ℕ) (held : List ℕ) → List ℕ
content_for address type held = checked (before_check address type held)

module _ (address type : ℕ) (held : List ℕ) where
  pub record_content : type < 2 ^ byte_bits → AreBytes held → length held < 2 ^ byte_bits
      → content_of (record_text address type held) ≡ content_for address type held
  unfolding record_text checked
  record_content small fine few =
      let rest = bytes_append (two_bytes address) (type ∷ held) (two_bytes_holds address) (bytes_cons type held small fine) in
      let last = bytes_cons (check_of (before_check address type held)) [] (check_byte (before_check address type held)) (λ i. omega arith) in
      content_read (content_for address type held)
      (bytes_append (before_check address type held) (check_of (before_check address type held) ∷ [])
      (bytes_cons (length held) (two_bytes address ++ (type ∷ held)) few rest) last)

  pub record_count : count_in (content_for address type held) ≡ length held
  unfolding count_in checked
  record_count = refl

  pub record_address : address_in (content_for address type held) ≡ address % bank_bytes
  unfolding address_in checked two_bytes unpack
  record_address = two_read address

  pub record_type : type_in (content_for address type held) ≡ type
  unfolding type_in checked two_bytes unpack
  record_type = refl

  pub record_held : held_in (content_for address type held) ≡ held
  unfolding held_in count_in checked two_bytes unpack
  record_held = take-append_seam held (check_of (before_check address type held) ∷ [])

-- a bank's record, one of data and the last one, before others
module _ (upper : ℕ) (texts : List (List ℕ)) where
  pub bank_read : (bank : ℕ) → held_by upper (bank_text bank ∷ texts) ≡ held_by (bank % bank_bytes) texts
  unfolding held_by record_holds upper_behind bank_text
  bank_read bank =
      let few : length (two_bytes bank) < 2 ^ byte_bits = rw (two_many bank) (omega arith) in
      rw (record_content 0 bank_type (two_bytes bank) (omega arith) (two_bytes_holds bank) few, record_type, record_held, two_read)

  pub data_read : (address : ℕ) (held : List ℕ) → AreBytes held → length held < 2 ^ byte_bits → held_by upper (data_text address held ∷ texts)
      ≡ held_from (bank_bytes * upper + address % bank_bytes) (words_of (length held / bytes_of_word) held) ++ held_by upper texts
  unfolding held_by record_holds upper_behind data_text
  data_read address held fine few =
      rw (record_content address data_type held (omega arith) fine few, record_type, record_count, record_address, record_held)

  pub end_read : held_by upper (end_text ∷ texts) ≡ held_by upper texts
  unfolding held_by record_holds upper_behind end_text content_of bytes_in value_of place_in type_in
  end_read = refl

-- ---- a file

abbrev pub AreWords : List ℕ → Type 0
AreWords lines = (i : ℕ) → slice_index lines i < 2 ^ word_bits

-- byte addresses of 32 bits, of which the number of a bank has 16
abbrev pub address_space : ℕ
address_space = bank_bytes * bank_bytes

-- the upper address on coming to an address: within a bank, the bank's number
abbrev pub Carried : (upper address : ℕ) → Type 0
Carried upper address = address % bank_bytes ≢ 0 → upper ≡ address / bank_bytes

-- on coming to the address behind a record of two lines
pub carried_on : (address : ℕ) → address % record_bytes ≡ 0 → Carried (address / bank_bytes) (address + record_bytes)
carried_on address even inside = omega arith

opening_read : (upper address : ℕ) (texts : List (List ℕ)) → address < address_space → Carried upper address
    → held_by upper (opening address ++ texts) ≡ held_by (address / bank_bytes) texts
opening_read upper address texts below carried = go (address % bank_bytes == 0) refl
  where
    go : (t : Bool) → (address % bank_bytes == 0) ≡ t
        → held_by upper (cond t (bank_text (address / bank_bytes) ∷ []) [] ++ texts) ≡ held_by (address / bank_bytes) texts
    go true e =
        let bank : address / bank_bytes % bank_bytes ≡ address / bank_bytes = omega arith in
        bank_read upper texts (address / bank_bytes) ∙ rw bank
    go false e = rw (carried (eqb-false (address % bank_bytes) 0 e))

pub opened_read : (upper address : ℕ) (texts : List (List ℕ)) → address < address_space → Carried upper address → (held : List ℕ) → AreBytes held
    → length held < 2 ^ byte_bits → held_by upper (opening address ++ (data_text address held ∷ texts))
    ≡ held_from address (words_of (length held / bytes_of_word) held) ++ held_by (address / bank_bytes) texts
opened_read upper address texts below carried held fine few =
    let whole : bank_bytes * (address / bank_bytes) + address % bank_bytes ≡ address = omega arith in
    opening_read upper address (data_text address held ∷ texts) below carried ∙ data_read (address / bank_bytes) texts address held fine few ∙ rw whole

file_end : (upper : ℕ) → held_by upper (end_text ∷ []) ≡ []
unfolding held_by
file_end upper = end_read upper []

-- one line's bytes are its word, and two lines' their words
one_word : (x : ℕ) → x < 2 ^ word_bits → words_of (length (bytes_of x) / bytes_of_word) (bytes_of x) ≡ x ∷ []
unfolding words_of bytes_of unpack
one_word x h = rw (word_of_bytes x h)

two_words : (x y : ℕ) → x < 2 ^ word_bits → y < 2 ^ word_bits
    → words_of (length (bytes_of x ++ bytes_of y) / bytes_of_word) (bytes_of x ++ bytes_of y) ≡ x ∷ y ∷ []
unfolding words_of bytes_of unpack
two_words x y h k = rw (word_of_bytes x h, word_of_bytes y k)

-- lines from an address on, where a record of two lines may begin
pub lines_from : (upper address : ℕ) (lines : List ℕ) → AreWords lines → address % record_bytes ≡ 0
    → address + bytes_of_word * length lines ≤ address_space → Carried upper address → held_by upper (records_from address lines) ≡ held_from address lines
unfolding records_from held_from
lines_from upper address [] words even room carried = file_end upper
lines_from upper address (x ∷ []) words even room carried =
    opened_read upper address (end_text ∷ []) (omega arith) carried (bytes_of x) (word_bytes x) (rw (word_many x) (omega arith))
    ∙ rw (one_word x (words 0), file_end (address / bank_bytes))
lines_from upper address (x ∷ y ∷ lines) words even room carried =
    let next : address + bytes_of_word + bytes_of_word ≡ address + record_bytes = omega arith in
    let rest =
    lines_from (address / bank_bytes) (address + record_bytes) lines (λ i. words (suc (suc i))) (omega arith) (omega arith) (carried_on address even) in
    opened_read upper address (records_from (address + record_bytes) lines) (omega arith) carried (bytes_of x ++ bytes_of y) (pair_bytes x y)
    (rw (pair_many x y) (omega arith))
    ∙ rw (two_words x y (words 0) (words 1), next, rest)

-- "line i at byte address 8i": the records of a file hold every line, in order, and nothing else
pub lines_read : (lines : List ℕ) → AreWords lines → length lines ≤ most_lines → held_by first_upper (records_of lines) ≡ held_from 0 lines
lines_read lines words most = lines_from first_upper 0 lines words (omega arith) (omega arith) (λ inside. omega arith)

pub held_many : (address : ℕ) (words : List ℕ) → length (held_from address words) ≡ length words
unfolding held_from
held_many address [] = refl
held_many address (w ∷ ws) = ap suc (held_many (address + bytes_of_word) ws)

pub held_at_holds : (address : ℕ) (words : List ℕ) (i : ℕ) (other : Held) → i < length words
    → slice_index_or (held_from address words) i other ≡ record { address = address + bytes_of_word * i; word = slice_index words i }
unfolding held_from
held_at_holds address [] i other h = absurd (omega arith)
held_at_holds address (w ∷ ws) zero other h = let first : address + bytes_of_word * 0 ≡ address = omega arith in rw first
held_at_holds address (w ∷ ws) (suc i) other h =
    let next : address + bytes_of_word * suc i ≡ address + bytes_of_word + bytes_of_word * i = omega arith in
    rw next (held_at_holds (address + bytes_of_word) ws i other (omega arith))
