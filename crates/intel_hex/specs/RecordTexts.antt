-- Which texts `is_record` takes, without writing them again: a colon, the digits of some bytes and a line feed, where the
-- first byte says how many the data are, and all of them sum to 0 modulo 256. `record_told` and `told_record` are the
-- two ways.
use Rattle.std.specs.Prelude.{◌≡◌, ℕ, suc, ◌+◌, ◌%◌, ◌^◌, ◌<◌, true, List, [], ◌∷◌, ◌++◌, length, take, drop, ◌==◌, nat_lt, slice_index, slice_index_or, refl}
use Rattle.std.proofs.Common.{sym, ap, ap₂, subst, ◌∙◌, arith, add-one, lt-ltb, ltb-true, eq-eqb, eqb-true, length-append, take-suc, length-take-le}
use Rattle.std.proofs.lemmas.Bool.{false≢true}
use Rattle.std.proofs.Math.ListN.{length-take}
use Rattle.std.proofs.Math.Seq.{take-length}
use Rattle.base.specs.Tests.{and_left, and_right}
use Rattle.layout.specs.Bytes.{byte_bits, byte_widths, word_of, AreBytes, bytes_cons, bytes_take, bytes_drop, bytes_fit}
use Rattle.layout.specs.Fields.{unpack, unpack_pack}
use Rattle.intel_hex.specs.Records.{text_of, sum_of, check_of, checked, address_bytes, two_bytes, record_text}
use Rattle.intel_hex.specs.Reading.{type_at, held_at, count_in, address_in, type_in}
use Rattle.intel_hex.specs.Contents.{content_of}
use Rattle.intel_hex.specs.Reading.{held_in, before_check, content_for}
use Rattle.intel_hex.specs.Contents.{content_read, content_bytes, record_content}
use Rattle.intel_hex.specs.Laws.{bare_bytes, sum_more, checked_sum}
use Rattle.intel_hex.specs.Import.{are_bytes, same, is_record}

-- a text that is the record of this content
pub record IsRecord (content text : List ℕ) : Type 0 where
  pub bytes : AreBytes content
  pub text_is : text ≡ text_of content
  pub many : length content ≡ bare_bytes + count_in content
  pub sum : sum_of content % 2 ^ byte_bits ≡ 0

-- ---- the two tests

pub bytes_told : (bs : List ℕ) → are_bytes bs ≡ true → AreBytes bs
unfolding are_bytes
bytes_told [] h = λ i. omega arith
bytes_told (b ∷ bs) h =
    bytes_cons b bs (ltb-true b (2 ^ byte_bits) (and_left (nat_lt b (2 ^ byte_bits)) (are_bytes bs) h))
    (bytes_told bs (and_right (nat_lt b (2 ^ byte_bits)) (are_bytes bs) h))

pub told_bytes : (bs : List ℕ) → AreBytes bs → are_bytes bs ≡ true
unfolding are_bytes
told_bytes [] h = refl
told_bytes (b ∷ bs) h = rw (lt-ltb b (2 ^ byte_bits) (h 0), told_bytes bs (λ i. h (suc i)))

pub same_told : (xs ys : List ℕ) → same xs ys ≡ true → xs ≡ ys
unfolding same
same_told [] [] h = refl
same_told [] (y ∷ ys) h = absurd (false≢true h)
same_told (x ∷ xs) [] h = absurd (false≢true h)
same_told (x ∷ xs) (y ∷ ys) h =
    ap₂ ◌∷◌ (eqb-true x y (and_left (x == y) (same xs ys) h)) (same_told xs ys (and_right (x == y) (same xs ys) h))

pub told_same : (xs : List ℕ) → same xs xs ≡ true
unfolding same
told_same [] = refl
told_same (x ∷ xs) = rw (eq-eqb x x refl, told_same xs)

-- ---- what is a record is of that form

module _ (content : List ℕ) (fine : AreBytes content) where
  held_bytes : AreBytes (held_in content)
  unfolding held_in
  held_bytes = bytes_take (count_in content) (drop held_at content) (bytes_drop held_at content fine)

  held_few : length (held_in content) < 2 ^ byte_bits
  unfolding held_in count_in
  held_few = rw length-take (omega (arith, fine 0))

  type_byte : type_in content < 2 ^ byte_bits
  unfolding type_in
  type_byte = fine type_at

-- what is written has as many bytes as its first says
again_many : (address type : ℕ) (held : List ℕ) → length (content_for address type held) ≡ bare_bytes + count_in (content_for address type held)
unfolding checked two_bytes unpack count_in
again_many address type held = rw length-append (omega arith)

pub record_told : (text : List ℕ) → is_record text ≡ true → IsRecord (content_of text) text
unfolding is_record record_text
record_told text h =
    let c = content_of text in
    let again = record_text (address_in c) (type_in c) (held_in c) in
    let fine = bytes_told c (and_left (are_bytes c) (same text again) h) in
    let written : text ≡ again = same_told text again (and_right (are_bytes c) (same text again) h) in
    let kept : c ≡ content_for (address_in c) (type_in c) (held_in c) =
    ap content_of written ∙ record_content (address_in c) (type_in c) (held_in c) (type_byte c fine) (held_bytes c fine) (held_few c fine) in
    record {
      bytes = fine;
      text_is = written ∙ ap text_of (sym kept);
      many = subst (λ (d : List ℕ). length d ≡ bare_bytes + count_in d) (sym kept) (again_many (address_in c) (type_in c) (held_in c));
      sum = ap (λ (d : List ℕ). sum_of d % 2 ^ byte_bits) kept ∙ checked_sum (before_check (address_in c) (type_in c) (held_in c));
    }

-- ---- and what is of that form is a record

-- a last byte that makes the sum 0 is the one that is written
last_is : (bs : List ℕ) (last : ℕ) → last < 2 ^ byte_bits → sum_of (bs ++ (last ∷ [])) % 2 ^ byte_bits ≡ 0 → last ≡ check_of bs
unfolding check_of
last_is bs last byte zero_sum = let sum : (sum_of bs + last) % 2 ^ byte_bits ≡ 0 = rw (sum_more bs last) at zero_sum in omega (arith, sum, byte)

two_again : (high low : ℕ) → AreBytes (high ∷ low ∷ []) → two_bytes (word_of (high ∷ low ∷ [])) ≡ high ∷ low ∷ []
unfolding two_bytes word_of
two_again high low fine = unpack_pack (byte_widths address_bytes) (high ∷ low ∷ []) (bytes_fit (high ∷ low ∷ []) fine)

-- a list of one more than n is its first n and one behind them
front_last : (n : ℕ) (xs : List ℕ) → length xs ≡ n + 1 → xs ≡ take n xs ++ (slice_index xs n ∷ [])
front_last n xs h = sym (take-length xs) ∙ rw (h, add-one) (take-suc xs n 0 (omega arith))

-- the same bytes come of what they say
written_again : (content : List ℕ) → AreBytes content → length content ≡ bare_bytes + count_in content → sum_of content % 2 ^ byte_bits ≡ 0
    → content ≡ content_for (address_in content) (type_in content) (held_in content)
unfolding count_in address_in type_in held_in checked
written_again [] fine many sum = absurd (omega arith)
written_again (n ∷ []) fine many sum = absurd (omega arith)
written_again (n ∷ high ∷ []) fine many sum = absurd (omega arith)
written_again (n ∷ high ∷ low ∷ []) fine many sum = absurd (omega arith)
written_again (n ∷ high ∷ low ∷ type ∷ rest) fine many sum =
    let held = take n rest in
    let before = n ∷ high ∷ low ∷ type ∷ held in
    let split : rest ≡ held ++ (slice_index rest n ∷ []) = front_last n rest (omega (arith, many)) in
    let last : slice_index_or rest n 0 ≡ check_of before =
    last_is before (slice_index rest n) (bytes_drop held_at (n ∷ high ∷ low ∷ type ∷ rest) fine n)
    (subst (λ (xs : List ℕ). sum_of (n ∷ high ∷ low ∷ type ∷ xs) % 2 ^ byte_bits ≡ 0) split sum) in
    let pair : AreBytes (high ∷ low ∷ []) = bytes_take address_bytes (high ∷ low ∷ type ∷ rest) (λ i. fine (suc i)) in
    rw (length-take-le n rest (omega (arith, many)), two_again high low pair, ← last) (ap (λ (xs : List ℕ). n ∷ high ∷ low ∷ type ∷ xs) split)

pub content_is : (content text : List ℕ) → IsRecord content text → content_of text ≡ content
content_is content text r = ap content_of r.text_is ∙ content_read content r.bytes

pub told_record : (content text : List ℕ) → IsRecord content text → is_record text ≡ true
unfolding is_record record_text
told_record content text r =
    let again = text_of (content_for (address_in content) (type_in content) (held_in content)) in
    let written : text ≡ again = r.text_is ∙ ap text_of (written_again content r.bytes r.many r.sum) in
    rw (content_is content text r, told_bytes content r.bytes, ← written) (told_same text)

-- and so is what 7/13 writes
pub written_record : (address type : ℕ) (held : List ℕ) → type < 2 ^ byte_bits → AreBytes held → length held < 2 ^ byte_bits
    → is_record (record_text address type held) ≡ true
unfolding record_text
written_record address type held small fine few =
    let content = content_for address type held in
    told_record content (record_text address type held) record {
      bytes = content_bytes address type held small fine few;
      text_is = refl;
      many = again_many address type held;
      sum = checked_sum (before_check address type held);
    }
