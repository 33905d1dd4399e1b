-- The reader, fed byte by byte, reads what `Records` says (`reader_reads`); and the laws between writer and reader: what the writer writes the
-- reader reads back (`read_back`), what the reader accepts the writer writes again (`written_again`), and what the reader refuses no writer
-- writes (`never_written`).
use Rattle.std.specs.Prelude.{ℕ, zero, suc, ◌+◌, ◌^◌, ◌<◌, ◌≤◌, Bool, ◌&&◌, List, [], ◌∷◌, ◌++◌, leb, take, drop, fold, Some, None, Result, Ok, Err, IfOk}
use Rattle.std.proofs.Math.Path.{◌≡◌, refl, sym}
use Rattle.std.proofs.Common.{ap, ap₂, ◌∙◌, arith, zero-add, suc-add, length-append, length-drop, drop_of_length-le, take-add, take_all, take-take, length-take-le, length-take, append_assoc, append-nil}
use Rattle.std.proofs.Math.Bool.{true, false, cond}
use borrow.Author.Tests.{leb-true, ltb-true, ltb-false, eqb-true, le-ltb, lt-ltb, lt-leb, ne_eqb}
use Rattle.std.proofs.Math.Dec.{ltb, eqb}
use Rattle.std.proofs.Math.ListN.{length}
use Rattle.std.proofs.lemmas.List.{take-append-le, drop-append-le}
use Rattle.std.proofs.Math.Seq.{take-append_seam}
use Rattle.base.specs.Cases.{below_or_not, either}
use Rattle.base.specs.Tests.{and_left, and_right}
use Rattle.layout.specs.declared.Record.{Record}
use Rattle.layout.specs.Limits.{word_bits, address_bits}
use Rattle.layout.specs.Fields.{pack, unpack}
use Rattle.layout.specs.Words.{RecordFits, decode_record, encode_record}
use Rattle.layout.specs.Bytes.{bytes_of_word, bytes_of, word_of, with_byte, AreBytes, bytes_drop, bytes_take, word_below, word_of_bytes, bytes_of_word_holds, word_grows}
use Rattle.layout.specs.Laws.{record_laws}
use Rattle.status.specs.declared.Status.{Status}
use Rattle.status.specs.declared.Status.TheVariants.{Trace}
use Rattle.records.specs.declared.Call.{Call}
use Rattle.records.specs.declared.Call.TheVariants.{Load, Store, Evict, Commit, Scan}
use Rattle.records.specs.declared.Reader.{Reader}
use Rattle.records.specs.Records.{load_kind, store_kind, commit_kind, scan_kind, evict_kind, record_bytes}
use Rattle.records.specs.Records.{takes_address, takes_value, zero_unless, has_place, call_of, call_in, first_word}
use Rattle.records.specs.Records.{written, words_reading, first_in, value_in, reading}
use Rattle.records.specs.Steps.{new_reader, is_new, is_full, step_of, reading_by}

-- ── the reader, byte by byte ──

-- the reader after so many bytes, sixteen at most
abbrev pub reader_of : List ℕ → Reader
reader_of bytes = record { count = length bytes; first = word_of (take bytes_of_word bytes); value = word_of (drop bytes_of_word bytes) }

pub new_reader_holds : (r : Reader) → is_new r ≡ true → r ≡ new_reader
unfolding is_new
new_reader_holds r h =
    let rest = and_right (eqb r.count 0) (eqb r.first 0 && eqb r.value 0) h in
    let count = eqb-true r.count 0 (and_left (eqb r.count 0) (eqb r.first 0 && eqb r.value 0) h) in
    let first = eqb-true r.first 0 (and_left (eqb r.first 0) (eqb r.value 0) rest) in
    let value = eqb-true r.value 0 (and_right (eqb r.first 0) (eqb r.value 0) rest) in
    λ i. record { count = count i; first = first i; value = value i }

pub reader_new : new_reader ≡ reader_of []
unfolding word_of pack
reader_new = refl

module _ (bytes : List ℕ) (b : ℕ) (h : AreBytes bytes) where
  abbrev more : List ℕ
  more = bytes ++ (b ∷ [])

  count_more : length more ≡ length bytes + 1
  count_more = length-append bytes (b ∷ [])

  module _ (l : length bytes < bytes_of_word) where
    first_grows : with_byte (word_of (take bytes_of_word bytes)) b ≡ word_of (take bytes_of_word more)
    first_grows =
        rw (take_all bytes_of_word bytes (omega arith), take_all bytes_of_word more (omega (arith, count_more))) (word_grows bytes b h l)

    value_waits : word_of (drop bytes_of_word bytes) ≡ word_of (drop bytes_of_word more)
    value_waits =
        ap word_of (drop_of_length-le bytes {i = bytes_of_word} (omega arith) ∙ sym (drop_of_length-le more {i = bytes_of_word} (omega (arith, count_more))))

  module _ (l : bytes_of_word ≤ length bytes) where
    first_stays : word_of (take bytes_of_word bytes) ≡ word_of (take bytes_of_word more)
    first_stays = ap word_of (sym (take-append-le bytes_of_word bytes (b ∷ []) l))

    value_grows : length bytes < record_bytes → with_byte (word_of (drop bytes_of_word bytes)) b ≡ word_of (drop bytes_of_word more)
    value_grows few =
        word_grows (drop bytes_of_word bytes) b (bytes_drop bytes_of_word bytes h) (rw (length-drop bytes_of_word bytes) (omega arith))
        ∙ ap word_of (sym (drop-append-le bytes_of_word bytes (b ∷ []) l))

  pub reader_steps : length bytes < record_bytes → step_of (reader_of bytes) b ≡ reader_of more
  unfolding step_of is_full
  reader_steps few =
      rw (lt-leb record_bytes (length bytes) few) (below_or_not (length bytes) bytes_of_word
      (λ l. rw (lt-ltb (length bytes) bytes_of_word l) (λ i. record { count = sym count_more i; first = first_grows l i; value = value_waits l i }))
      (λ l. rw (le-ltb (length bytes) bytes_of_word l) (λ i. record { count = sym count_more i; first = first_stays l i; value = value_grows l few i })))

pub reader_reads : (bytes : List ℕ) → length bytes ≤ record_bytes → reading_by (reader_of bytes) ≡ reading bytes
unfolding reading_by reading
reader_reads bytes most = rw (take_all bytes_of_word (drop bytes_of_word bytes) (rw (length-drop bytes_of_word bytes) (omega arith)))

part_taken : (m n : ℕ) (bytes : List ℕ) → take n (drop m (take (m + n) bytes)) ≡ take n (drop m bytes)
part_taken zero n bytes = rw zero-add (take-take n n bytes (omega arith))
part_taken (suc m) n [] = rw suc-add
part_taken (suc m) n (b ∷ bs) = rw suc-add (part_taken m n bs)

-- bytes behind a record do not count
pub reading_first : (bytes : List ℕ) → reading (take record_bytes bytes) ≡ reading bytes
unfolding reading
reading_first bytes = below_or_not (length bytes) record_bytes (λ l. rw (take_all record_bytes bytes (omega arith))) (λ l.
    let n : length (take record_bytes bytes) ≡ record_bytes = length-take-le record_bytes bytes l in
    rw (n, take-take bytes_of_word record_bytes bytes (omega arith), part_taken bytes_of_word bytes_of_word bytes, ne_eqb (length bytes) 0 (omega arith), le-ltb (length bytes) record_bytes l))

-- the bytes before others are bytes
pub front_bytes : (xs ys : List ℕ) → AreBytes (xs ++ ys) → AreBytes xs
front_bytes xs ys h = rw (take-append_seam xs ys) at (bytes_take (length xs) (xs ++ ys) h)

-- more bytes, one after the other
steps_on : (read bytes : List ℕ) → AreBytes (read ++ bytes) → length (read ++ bytes) ≤ record_bytes → fold step_of (reader_of read) bytes ≡ reader_of (read ++ bytes)
steps_on read [] h most = ap reader_of (sym (append-nil read))
steps_on read (b ∷ bytes) h most =
    let same = append_assoc read (b ∷ []) bytes in
    let few : length read < record_bytes = omega (arith, length-append read (b ∷ bytes)) in
    ap (λ (r : Reader). fold step_of r bytes) (reader_steps read b (front_bytes read (b ∷ bytes) h) few)
    ∙ steps_on (read ++ (b ∷ [])) bytes (rw same h) (rw same most)
    ∙ ap reader_of same

-- the reader, on bytes that are at hand
pub bytes_read : (bytes : List ℕ) → AreBytes bytes → reading_by (fold step_of new_reader (take record_bytes bytes)) ≡ reading bytes
bytes_read bytes h =
    let most : length (take record_bytes bytes) ≤ record_bytes = omega (arith, length-take record_bytes bytes) in
    ap (λ (r : Reader). reading_by (fold step_of r (take record_bytes bytes))) reader_new
    ∙ ap reading_by (steps_on [] (take record_bytes bytes) (bytes_take record_bytes bytes h) most)
    ∙ reader_reads (take record_bytes bytes) most
    ∙ reading_first bytes

-- ── what has a place ──

module _ (kind address value : ℕ) (placed : has_place kind address value ≡ true) where
  abbrev fits : Bool
  fits = zero_unless (takes_address kind) address && zero_unless (takes_value kind) value

  pub place_kind : kind ≤ evict_kind
  unfolding has_place
  place_kind = leb-true kind evict_kind (and_left (leb kind evict_kind) (ltb address (2 ^ address_bits) && fits) placed)

  rest : ltb address (2 ^ address_bits) && fits ≡ true
  unfolding has_place
  rest = and_right (leb kind evict_kind) (ltb address (2 ^ address_bits) && fits) placed

  pub place_address : address < 2 ^ address_bits
  place_address = ltb-true address (2 ^ address_bits) (and_left (ltb address (2 ^ address_bits)) fits rest)

  both_fit : fits ≡ true
  both_fit = and_right (ltb address (2 ^ address_bits)) fits rest

  pub place_fits : RecordFits (record { kind = kind; address = address; spare = 0 })
  place_fits = omega (arith, place_kind, place_address)

  address_fits : zero_unless (takes_address kind) address ≡ true
  address_fits = and_left (zero_unless (takes_address kind) address) (zero_unless (takes_value kind) value) both_fit

  value_fits : zero_unless (takes_value kind) value ≡ true
  value_fits = and_right (zero_unless (takes_address kind) address) (zero_unless (takes_value kind) value) both_fit

-- a call that has a place fits the first word
pub call_fits : (kind address value : ℕ) {c : Call} → call_in kind address value ≡ Ok c → RecordFits (record { kind = kind; address = address; spare = 0 })
unfolding call_in
call_fits kind address value {c} e = go (has_place kind address value) refl e
  where
    go : (t : Bool) → has_place kind address value ≡ t → cond t (Ok (call_of kind address value)) (Err Trace) ≡ Ok c
        → RecordFits (record { kind = kind; address = address; spare = 0 })
    go true h e = place_fits kind address value h
    go false h e = cc

-- ── writer and reader ──

-- what the record of a call holds
abbrev pub kind_of : Call → ℕ
kind_of (Load address) = load_kind
kind_of (Store address value) = store_kind
kind_of (Evict address) = evict_kind
kind_of Commit = commit_kind
kind_of Scan = scan_kind

abbrev pub address_of : Call → ℕ
address_of (Load address) = address
address_of (Store address value) = address
address_of (Evict address) = address
address_of Commit = 0
address_of Scan = 0

abbrev pub value_of : Call → ℕ
value_of (Load address) = 0
value_of (Store address value) = value
value_of (Evict address) = 0
value_of Commit = 0
value_of Scan = 0

record Holds (c : Call) (kind address value : ℕ) : Type 0 where
  is_kind : kind_of c ≡ kind
  is_address : address_of c ≡ address
  is_value : value_of c ≡ value

call_holds : (kind address value : ℕ) → has_place kind address value ≡ true → Holds (call_of kind address value) kind address value
unfolding call_of
call_holds kind address value placed =
    go kind (place_kind kind address value placed) (address_fits kind address value placed) (value_fits kind address value placed)
  where
    go : (k : ℕ) → k ≤ evict_kind → zero_unless (takes_address k) address ≡ true → zero_unless (takes_value k) value ≡ true
        → Holds (call_of k address value) k address value
    go zero h a v = record { is_kind = refl; is_address = refl; is_value = sym (eqb-true value 0 v) }
    go (suc zero) h a v = record { is_kind = refl; is_address = refl; is_value = refl }
    go (suc (suc zero)) h a v = record { is_kind = refl; is_address = sym (eqb-true address 0 a); is_value = sym (eqb-true value 0 v) }
    go (suc (suc (suc zero))) h a v = record { is_kind = refl; is_address = sym (eqb-true address 0 a); is_value = sym (eqb-true value 0 v) }
    go (suc (suc (suc (suc zero)))) h a v = record { is_kind = refl; is_address = refl; is_value = sym (eqb-true value 0 v) }
    go (suc (suc (suc (suc (suc k))))) h a v = absurd (omega arith)

-- two words as bytes read as the two words
words_read : (first value : ℕ) → first < 2 ^ word_bits → value < 2 ^ word_bits → reading (bytes_of first ++ bytes_of value) ≡ words_reading first value
unfolding reading bytes_of unpack
words_read first value f v = ap₂ words_reading (word_of_bytes first f) (word_of_bytes value v)

module _ (kind address value : ℕ) where
  pub written_length : IfOk (written kind address value) (λ bytes. length bytes ≡ record_bytes)
  unfolding written bytes_of unpack
  written_length = either (λ (w : Result (List ℕ) Status). IfOk w (λ bytes. length bytes ≡ record_bytes)) (has_place kind address value) refl tt

  pub written_placed : has_place kind address value ≡ true
      → written kind address value ≡ Ok (bytes_of (first_word kind address) ++ bytes_of value)
  unfolding written
  written_placed placed = rw placed

  -- only what has a place is written
  pub placed_written : {bytes : List ℕ} → written kind address value ≡ Ok bytes → has_place kind address value ≡ true
  unfolding written
  placed_written {bytes} w = go (has_place kind address value) w
    where
      go : (t : Bool) → cond t (Ok (bytes_of (first_word kind address) ++ bytes_of value)) (Err Trace) ≡ Ok bytes → t ≡ true
      go true e = refl
      go false e = cc

  words_placed : has_place kind address value ≡ true → words_reading (first_word kind address) value ≡ Ok (Some (call_of kind address value))
  unfolding words_reading first_word
  words_placed placed = rw (record_laws.decode_encode (record { kind = kind; address = address; spare = 0 }) (place_fits kind address value placed), placed)

  word_fits : has_place kind address value ≡ true → first_word kind address < 2 ^ word_bits
  unfolding first_word
  word_fits placed = record_laws.encode_below (record { kind = kind; address = address; spare = 0 }) (place_fits kind address value placed)

  -- what the writer writes the reader reads back
  pub read_back : value < 2 ^ word_bits → (bytes : List ℕ) → written kind address value ≡ Ok bytes → reading bytes ≡ Ok (Some (call_of kind address value))
  read_back v bytes w =
      let placed = placed_written w in
      let is : bytes ≡ bytes_of (first_word kind address) ++ bytes_of value = let z = sym w ∙ written_placed placed in cc in
      rw is (words_read (first_word kind address) value (word_fits placed) v ∙ words_placed placed)

-- What the reader accepts.
module _ (bytes : List ℕ) (c : Call) where
  abbrev word : Record
  word = decode_record (first_in bytes)

  record Accepted : Type 0 where
    long : record_bytes ≤ length bytes
    spare : word.spare ≡ 0
    placed : has_place word.kind word.address (value_in bytes) ≡ true
    call : c ≡ call_of word.kind word.address (value_in bytes)

  accepted : reading bytes ≡ Ok (Some c) → Accepted
  unfolding reading words_reading
  accepted e =
      go (eqb (length bytes) 0) (ltb (length bytes) record_bytes) (eqb word.spare 0) (has_place word.kind word.address (value_in bytes)) refl refl
      refl refl e
    where
      go : (none short plain placed : Bool) → eqb (length bytes) 0 ≡ none → ltb (length bytes) record_bytes ≡ short → eqb word.spare 0 ≡ plain
          → has_place word.kind word.address (value_in bytes) ≡ placed
          → cond none (Ok None) (cond short (Err Trace)
          (cond (plain && placed) (Ok (Some (call_of word.kind word.address (value_in bytes)))) (Err Trace))) ≡ Ok (Some c) → Accepted
      go true short plain placed n s p q x = cc
      go false true plain placed n s p q x = cc
      go false false false placed n s p q x = cc
      go false false true false n s p q x = cc
      go false false true true n s p q x =
          record { long = ltb-false (length bytes) record_bytes s; spare = eqb-true word.spare 0 p; placed = q; call = cc }

module _ (bytes : List ℕ) (h : AreBytes bytes) where
  first_below : record_bytes ≤ length bytes → first_in bytes < 2 ^ word_bits
  first_below long =
      rw (length-take-le bytes_of_word bytes (omega arith)) at (word_below (take bytes_of_word bytes) (bytes_take bytes_of_word bytes h))

  -- a word whose bits behind the address are zero is that of its kind and address
  word_again : record_bytes ≤ length bytes → (decode_record (first_in bytes)).spare ≡ 0 → first_word (decode_record (first_in bytes)).kind (decode_record (first_in bytes)).address ≡ first_in bytes
  unfolding first_word
  word_again long spare =
      let r = decode_record (first_in bytes) in
      (λ i. encode_record (record { kind = r.kind; address = r.address; spare = sym spare i }))
      ∙ record_laws.encode_decode (first_in bytes) (first_below long)

  bytes_again : record_bytes ≤ length bytes → bytes_of (first_in bytes) ++ bytes_of (value_in bytes) ≡ take record_bytes bytes
  bytes_again long =
      ap₂ ◌++◌
      (bytes_of_word_holds (take bytes_of_word bytes) (bytes_take bytes_of_word bytes h) (length-take-le bytes_of_word bytes (omega arith)))
      (bytes_of_word_holds (take bytes_of_word (drop bytes_of_word bytes)) (bytes_take bytes_of_word (drop bytes_of_word bytes) (bytes_drop bytes_of_word bytes h))
      (length-take-le bytes_of_word (drop bytes_of_word bytes) (rw (length-drop bytes_of_word bytes) (omega arith))))
      ∙ sym (take-add bytes_of_word bytes_of_word bytes)

  -- what the reader accepts the writer writes again, byte for byte
  pub written_again : (c : Call) → reading bytes ≡ Ok (Some c)
      → written (kind_of c) (address_of c) (value_of c) ≡ Ok (take record_bytes bytes)
  written_again c e =
      let a = accepted bytes c e in
      let r = decode_record (first_in bytes) in
      let o = call_holds r.kind r.address (value_in bytes) a.placed in
      rw (a.call, o.is_kind, o.is_address, o.is_value) (written_placed r.kind r.address (value_in bytes) a.placed
      ∙ ap (λ (x : List ℕ). Ok x) (ap (λ (w : ℕ). bytes_of w ++ bytes_of (value_in bytes)) (word_again a.long a.spare) ∙ bytes_again a.long))

-- what the reader refuses no writer writes
pub never_written : (bytes : List ℕ) (s : Status) → reading bytes ≡ Err s → (kind address value : ℕ) → value < 2 ^ word_bits
    → written kind address value ≡ Ok (take record_bytes bytes) → ⊥
never_written bytes s e kind address value v w =
    let is = sym (reading_first bytes ∙ e) ∙ read_back kind address value v (take record_bytes bytes) w in
    cc
