-- A record is put part by part: its data, what stands before them, what stands behind.
use Rattle.std.proofs.Common.{◌≡◌, ℕ, suc, ◌+◌, ◌-◌, ◌*◌, ◌/◌, ◌%◌, ◌^◌, ◌<◌, ◌≤◌, ◌≢◌, List, [], ◌∷◌, ◌++◌, length, get_or, drop, set, sym, refl, ap, ◌∙◌, append_assoc, arith, length-append, length-set}
use lib.Seq.{sets, sets-eq, length-sets, set_comm}
use Rattle.layout.specs.Bytes.{byte_bits, word_of}
use Rattle.layout.specs.Fields.{pack, unpack, width}
use Rattle.status.specs.Names.{bytes}
use Rattle.intel_hex.specs.Records.{byte_digits, digits_of, line_feed, text_of, sum_of, check_of, checked, two_bytes, record_text, bank_type, bank_text, data_type, data_text, record_bytes, end_text}
use Rattle.intel_hex.specs.Places.{pair_bytes}
use Rattle.intel_hex.specs.Reading.{word_many, pair_many}
use Rattle.intel_hex.specs.Export.{most_text}
use Rattle.std.specs.Int.{w16, w64, to_be_bytes, from_be_bytes}
use Rattle.intel_hex.specs.Laws.{digits_many, record_length}
use Rattle.intel_hex.specs.Promises.{data_at, tail_bytes, text_bytes, head_of, PutsBytes, PutsHead, Puts}
use Rattle.intel_hex.proofs.ByteDigits.{sets_append, digits_append, sum_append}

pub two_made : (n : ℕ) (bs : List ℕ) → bs ≡ to_be_bytes w64 n → (get_or bs 6 0 ∷ get_or bs 7 0 ∷ []) ≡ two_bytes n
unfolding two_bytes unpack width
two_made n bs is =
    let low : n % 2 ^ byte_bits ≡ n / 2 ^ 0 % 2 ^ byte_bits = omega arith in
    rw is (ap (λ (b : ℕ). n / 2 ^ byte_bits % 2 ^ byte_bits ∷ b ∷ []) low)

pub two_bytes_are : (high low : ℕ) → from_be_bytes w16 (high ∷ low ∷ []) ≡ word_of (high ∷ low ∷ [])
unfolding word_of pack width
two_bytes_are high low = omega arith

-- ── at the start of a text ──

sets_front : (written text : List ℕ) → length written ≤ length text → sets text 0 written ≡ written ++ drop (length written) text
sets_front written text h = let z : 0 + length written ≡ length written = omega arith in rw z at (sets-eq written text 0 (omega (arith, h)))

-- the end, copied
pub end_put : (part end text : List ℕ) → part ≡ end → end ≡ end_text → Puts end_text text (part ++ drop (length end_text) text) (length end_text)
end_put part end text p e = rw (p, e) record { many = refl; left = refl }

-- ── what stands before the data ──

abbrev colon : ℕ
colon = 58

pub count_fits : (text : List ℕ) → data_at ≤ length text → 1 + 1 < length (set text 0 colon)
count_fits text h = rw (length-set text 0 colon) (omega (arith, h))

pub rest_fits : (text t₁ place : List ℕ) (count kind : ℕ) → data_at ≤ length text → t₁ ≡ sets (set text 0 colon) 1 (digits_of (count ∷ []))
    → 3 + byte_digits * length (get_or place 0 0 ∷ get_or place 1 0 ∷ kind ∷ []) ≤ length t₁
rest_fits text t₁ place count kind h e =
    rw (e, length-sets (set text 0 colon) 1 (digits_of (count ∷ [])), length-set text 0 colon) (omega (arith, h))

module _ (text t₁ t₂ place : List ℕ) (count address kind sum : ℕ) (counted : t₁ ≡ sets (set text 0 colon) 1 (digits_of (count ∷ [])))
    (put : PutsBytes (get_or place 0 0 ∷ get_or place 1 0 ∷ kind ∷ []) t₁ 3 t₂ sum) where
  pub head_same : length t₂ ≡ length text
  head_same =
      ap length put.left
      ∙ length-sets t₁ 3 (digits_of (get_or place 0 0 ∷ get_or place 1 0 ∷ kind ∷ []))
      ∙ ap length counted
      ∙ length-sets (set text 0 colon) 1 (digits_of (count ∷ []))
      ∙ length-set text 0 colon

  pub head_put : (r : ℕ) → place ≡ two_bytes address → r ≡ (count + sum) % 2 ^ byte_bits → PutsHead count address kind text t₂ r
  unfolding digits_of sum_of two_bytes unpack
  head_put r e f =
      let rest = rw e at put in
      record {
        left = rest.left ∙ ap (λ (t : List ℕ). sets t 3 (digits_of (two_bytes address ++ (kind ∷ [])))) counted;
        total = f ∙ all (sum_of (two_bytes address ++ (kind ∷ []))) rest.total;
      }
    where
      all : (s : ℕ) → sum ≡ s % 2 ^ byte_bits → (count + sum) % 2 ^ byte_bits ≡ (count + s) % 2 ^ byte_bits
      all s g = omega (arith, g)

-- ── what stands behind them ──

pub tail_put : (text text' : List ℕ) (at check : ℕ) → text' ≡ sets text at (digits_of (check ∷ []))
    → set text' (at + byte_digits) line_feed ≡ sets text at (digits_of (check ∷ []) ++ (line_feed ∷ []))
unfolding digits_of
tail_put text text' at check e = rw e (sets_append text at (digits_of (check ∷ [])) (line_feed ∷ []))

-- ── a record ──

-- a piece that is put before another may be put after it
set_before : (text : List ℕ) (i j x : ℕ) (q : List ℕ) → i < j → set (sets text j q) i x ≡ sets (set text i x) j q
set_before text i j x [] h = refl
set_before text i j x (y ∷ q) h =
    let apart : i ≢ j = λ e. omega (arith, e, h) in
    set_before (set text j y) i (suc j) x q (omega (arith, h)) ∙ ap (λ (t : List ℕ). sets t (suc j) q) (sym (set_comm text i j x y apart))

sets_before : (text : List ℕ) (i j : ℕ) (p q : List ℕ) → i + length p ≤ j → sets (sets text j q) i p ≡ sets (sets text i p) j q
sets_before text i j [] q h = refl
sets_before text i j (x ∷ p) q h =
    ap (λ (t : List ℕ). sets t (suc i) p) (set_before text i j x q (omega (arith, h)))
    ∙ sets_before (set text i x) (suc i) j p q (omega (arith, h))

-- bytes that are summed up apart
pub sums_join : (a b x y : ℕ) → x ≡ a % 2 ^ byte_bits → y ≡ b % 2 ^ byte_bits → (a + b) % 2 ^ byte_bits ≡ (x + y) % 2 ^ byte_bits
sums_join a b x y e f = omega (arith, e, f)

-- a byte that makes a sum 0 is the one that the definition names
check_is : (s added check : ℕ) → s % 2 ^ byte_bits ≡ added → (check + added) % 2 ^ byte_bits ≡ 0 → check < 2 ^ byte_bits
    → check ≡ (2 ^ byte_bits - s % 2 ^ byte_bits) % 2 ^ byte_bits
check_is s added check e f h = omega (arith, e, f, h)

module _ (text t₁ t₂ t₃ held : List ℕ) (address kind sum head added check : ℕ)
    (data_put : PutsBytes held text data_at t₁ sum) (before : PutsHead (length held) address kind t₁ t₂ head)
    (adds : added ≡ (head + sum) % 2 ^ byte_bits) (zeroes : (check + added) % 2 ^ byte_bits ≡ 0) (byte : check < 2 ^ byte_bits)
    (behind : t₃ ≡ sets t₂ (data_at + byte_digits * length held) (digits_of (check ∷ []) ++ (line_feed ∷ [])))
    (room : text_bytes (length held) ≤ length text) where
  abbrev first : List ℕ
  first = head_of (length held) address kind

  abbrev front : List ℕ
  front = bytes ":" ++ digits_of first

  abbrev tail : List ℕ
  tail = digits_of (check ∷ []) ++ (line_feed ∷ [])

  check_made : check ≡ check_of (first ++ held)
  unfolding check_of
  check_made =
      let all = sums_join (sum_of first) (sum_of held) head sum before.total data_put.total ∙ sym adds in
      check_is (sum_of (first ++ held)) added check (rw (sum_append first held) all) zeroes byte

  front_many : length front ≡ data_at
  unfolding digits_of two_bytes unpack
  front_many = refl

  so_far : t₂ ≡ sets text 0 (front ++ digits_of held)
  so_far =
      let close : 0 + length front ≤ data_at = omega (arith, front_many) in
      let joins : data_at ≡ 0 + length front = omega (arith, front_many) in
      before.left
      ∙ ap (λ (t : List ℕ). sets t 0 front) data_put.left
      ∙ sets_before text 0 data_at front (digits_of held) close
      ∙ ap (λ (k : ℕ). sets (sets text 0 front) k (digits_of held)) joins
      ∙ sets_append text 0 front (digits_of held)

  whole : t₃ ≡ sets text 0 (front ++ digits_of held ++ tail)
  whole =
      let joins : data_at + byte_digits * length held ≡ 0 + length (front ++ digits_of held)
      = rw (length-append front (digits_of held), front_many, digits_many held) (omega arith) in
      behind
      ∙ ap (λ (t : List ℕ). sets t (data_at + byte_digits * length held) tail) so_far
      ∙ ap (λ (k : ℕ). sets (sets text 0 (front ++ digits_of held)) k tail) joins
      ∙ sets_append text 0 (front ++ digits_of held) tail

  text_made : front ++ digits_of held ++ tail ≡ record_text address kind held
  unfolding record_text text_of checked two_bytes unpack
  text_made =
      rw (← check_made, digits_append (first ++ held) (check ∷ []), digits_append first held)
      (sym (append_assoc (bytes ":" ++ (digits_of first ++ digits_of held)) (digits_of (check ∷ [])) (line_feed ∷ [])))

  pub record_put : Puts (record_text address kind held) text t₃ (data_at + byte_digits * length held + tail_bytes)
  record_put =
      let many : length (record_text address kind held) ≡ data_at + byte_digits * length held + tail_bytes = rw (record_length address kind held) (omega arith) in
      let fits : length (record_text address kind held) ≤ length text = omega (arith, many, room) in
      record {
        many = sym many;
        left = whole ∙ ap (λ (w : List ℕ). sets text 0 w) text_made ∙ sets_front (record_text address kind held) text fits;
      }

-- a bank's opener, and the record of lines whose bytes are gathered
pub bank_put : (text text' two : List ℕ) (bank r : ℕ) → two ≡ two_bytes bank → Puts (record_text 0 bank_type two) text text' r → Puts (bank_text bank) text text' r
unfolding bank_text
bank_put text text' two bank r e p = rw e at p

pair_few : (lines : List ℕ) → length (pair_bytes lines) ≤ record_bytes
pair_few [] = omega arith
pair_few (x ∷ []) = rw (word_many x) (omega arith)
pair_few (x ∷ y ∷ lines) = rw (pair_many x y) (omega arith)

module _ (lines held : List ℕ) (gathered : held ≡ pair_bytes lines) where
  pub gathered_few : length held ≤ record_bytes
  gathered_few = rw gathered (pair_few lines)

  pub gathered_fits : (text : List ℕ) → most_text ≤ length text → text_bytes (length held) ≤ length text
  gathered_fits text h = let few = gathered_few in omega (arith, h, few)

  pub lines_put : (text text' : List ℕ) (address r : ℕ) → Puts (record_text address data_type held) text text' r
      → Puts (data_text address (pair_bytes lines)) text text' r
  unfolding data_text
  lines_put text text' address r p = rw gathered at p
