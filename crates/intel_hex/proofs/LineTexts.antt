-- The texts of lines: what the tests of the code tell of them.
use Rattle.std.proofs.Common.{◌≡◌, ℕ, zero, suc, ◌+◌, ◌-◌, ◌*◌, ◌%◌, ◌^◌, ◌<◌, ◌≤◌, Bool, true, false, cond, not, ◌&&◌, ◌||◌, eqb, List, [], ◌∷◌, ◌++◌, map, length, take, drop, sym, refl, ap, ◌∙◌, append_assoc, append-nil, arith, length-append, length-drop, length-take-le, drop-drop, take_at, take-add, drop_at, eqb-true}
use Rattle.std.specs.Prelude.{Some, None, get_or}
use mathlib.Core.Bool.{false≢true}
use mathlib.Core.List.{map-append}
use borrow.Author.Tests.{eqb-false, not-true, not-false}
use lib.ListN.{length-map, length-replicate}
use lib.Seq.{sets}
use Rattle.base.specs.Every.{Every}
use Rattle.base.specs.Tests.{and_left, and_right}
use Rattle.layout.specs.Bytes.{byte_bits, bytes_of_word, word_of}
use Rattle.intel_hex.specs.Records.{digit, digit_bits, byte_digits, digits_of, sum_of, address_bytes, bank_bytes, bank_type, data_type, record_bytes}
use Rattle.intel_hex.specs.Laws.{end_type}
use Rattle.intel_hex.specs.Reading.{place_in, address_in, type_in}
use Rattle.intel_hex.specs.Contents.{value_of, paired, content_of}
use Rattle.intel_hex.specs.Export.{most_text}
use Rattle.intel_hex.specs.Import.{capital, in_capitals, is_record, is_offered, well_formed}
use Rattle.intel_hex.specs.Laws.{bare_text}
use Rattle.intel_hex.specs.RecordTexts.{record_told}
use Rattle.intel_hex.specs.Promises.{text_bytes, data_at, tail_bytes, meant, all_digits, Decides, Framed, ReadsValues, ReadsBytes}
use Rattle.intel_hex.specs.Promises.{has_lines, count_for, line_digits, zeros, with_place, one_line, two_lines, gathered, LinesRead, ReadsLines, LineCount}
use Rattle.intel_hex.proofs.ByteDigits.{sum_append}
use Rattle.intel_hex.proofs.DigitReading.{all_append}
use Rattle.std.specs.Int.{w16, from_be_bytes}
use Rattle.intel_hex.proofs.RecordParts.{sums_join, two_bytes_are}
use Rattle.intel_hex.proofs.TextDigits.{capital_a, last_digits}
use Rattle.intel_hex.proofs.TextParts.{address_part, data_part, last_part, address_read, data_read, last_read, content_read, ReadAs}
use Rattle.intel_hex.proofs.TextParts.{two_at, address_many, data_many, last_many, a_many, d_many, content_sum, read_as, Told, count_told, told}
use Rattle.intel_hex.proofs.TextReading.{sets_middle, has_one, by_lines}

-- ---- zeros

zeros_digits : (n : ℕ) → all_digits (zeros n) ≡ true
unfolding all_digits value_of capital place_in
zeros_digits zero = refl
zeros_digits (suc n) = zeros_digits n

zeros_paired : (n : ℕ) → sum_of (paired (map meant (zeros n))) ≡ 0
unfolding paired sum_of value_of capital place_in
zeros_paired zero = refl
zeros_paired (suc zero) = refl
zeros_paired (suc (suc n)) = ap (λ (k : ℕ). 0 + k) (zeros_paired n)

-- whole pairs, and more behind them
pub paired_append : (vs ws : List ℕ) (n : ℕ) → length vs ≡ byte_digits * n → paired (vs ++ ws) ≡ paired vs ++ paired ws
unfolding paired
paired_append [] ws n e = refl
paired_append (v ∷ []) ws n e = absurd (omega arith)
paired_append (v ∷ w ∷ vs) ws zero e = absurd (omega arith)
paired_append (v ∷ w ∷ vs) ws (suc n) e = ap (λ (l : List ℕ). (v * 2 ^ digit_bits + w) ∷ l) (paired_append vs ws n (omega arith))

-- bytes that are summed up in three steps
pub steps_join : (w s k : ℕ) → s ≡ w % 2 ^ byte_bits → (s + k) % 2 ^ byte_bits ≡ (w + k) % 2 ^ byte_bits
steps_join w s k e = omega (arith, e)

total_is : (k a d x data_sum place_sum sum total all : ℕ) → data_sum ≡ d % 2 ^ byte_bits → place_sum ≡ (a + x) % 2 ^ byte_bits
    → sum ≡ (data_sum + place_sum) % 2 ^ byte_bits → total ≡ (sum + k) % 2 ^ byte_bits → all ≡ k + (a + (data_type + (d + x))) → total ≡ all % 2 ^ byte_bits
total_is k a d x data_sum place_sum sum total all ds ps s t e =
    let two : sum ≡ (d + (a + x)) % 2 ^ byte_bits = s ∙ sym (sums_join d (a + x) data_sum place_sum ds ps) in
    let order : d + (a + x) + k ≡ all = omega (arith, e) in
    t ∙ steps_join (d + (a + x)) sum k two ∙ ap (λ (n : ℕ). n % 2 ^ byte_bits) order

-- ---- what is gathered

module _ (text : List ℕ) (h : has_lines (length text) ≡ true) where
  abbrev count : ℕ
  count = count_for (length text)

  by_length : (Q : ℕ → Type 0) → Q most_text → Q (text_bytes bytes_of_word) → Q (length text)
  by_length Q two one = by_lines (length text) h Q two one

  pub many : length text ≡ bare_text + byte_digits * count
  many = by_length (λ n. n ≡ bare_text + byte_digits * count_for n) refl refl

  count_few : count ≤ record_bytes
  count_few = by_length (λ n. count_for n ≤ record_bytes) (omega arith) (omega arith)

  count_offered : eqb count bytes_of_word || eqb count record_bytes ≡ true
  count_offered = by_length (λ n. eqb (count_for n) bytes_of_word || eqb (count_for n) record_bytes ≡ true) refl refl

  fill : List ℕ
  fill = zeros (byte_digits * (record_bytes - count))

  front : List ℕ
  front = data_part count text ++ fill

  front_many : length front ≡ 2 * line_digits
  unfolding front fill
  front_many = rw (length-append (data_part count text), data_many text count many, length-replicate) (omega (arith, count_few))

  place_gathered : with_place (front ++ zeros line_digits) text ≡ front ++ (address_part text ++ (last_part count text ++ zeros 10))
  place_gathered =
      let a = address_part text in
      let x = last_part count text in
      let at : length text - tail_bytes ≡ data_at + byte_digits * count = omega (arith, many) in
      let one : sets (front ++ (zeros 4 ++ zeros 12)) (2 * line_digits) a ≡ front ++ (a ++ zeros 12) =
      sets_middle front (zeros 4) (zeros 12) a (2 * line_digits) (sym front_many) (address_many text count many) in
      let long : 36 ≡ length (front ++ a) = rw (length-append front a, front_many, address_many text count many) in
      let two : sets ((front ++ a) ++ (zeros 2 ++ zeros 10)) 36 x ≡ (front ++ a) ++ (x ++ zeros 10) =
      sets_middle (front ++ a) (zeros 2) (zeros 10) x 36 long (last_many text count many) in
      rw (at, one, ← append_assoc front a (zeros 12), two) (append_assoc front a (x ++ zeros 10))

  -- one line, or two
  abbrev first : List ℕ
  first = take line_digits (drop data_at text)

  abbrev second : List ℕ
  second = take line_digits (drop (data_at + line_digits) text)

  cut_many : (at : ℕ) → at + line_digits ≤ length text → length (take line_digits (drop at text)) ≡ line_digits
  cut_many at fits = length-take-le line_digits (drop at text) (rw (length-drop at text) (omega (arith, fits)))

  one_gathered : one_line text ≡ first ++ (zeros line_digits ++ zeros line_digits)
  one_gathered =
      sets_middle [] (zeros line_digits) (zeros line_digits ++ zeros line_digits) first 0 refl
      (cut_many data_at (by_length (λ n. data_at + line_digits ≤ n) (omega arith) (omega arith)))

  one_front : length text ≡ text_bytes bytes_of_word → one_line text ≡ front ++ zeros line_digits
  unfolding front fill
  one_front e = one_gathered ∙ rw e (sym (append_assoc first (zeros line_digits) (zeros line_digits)))

  two_front : length text ≡ most_text → two_lines text ≡ front ++ zeros line_digits
  unfolding front fill
  two_front e =
      let l₁ = cut_many data_at (omega (arith, e)) in
      let l₂ = cut_many (data_at + line_digits) (omega (arith, e)) in
      let both : take (byte_digits * record_bytes) (drop data_at text) ≡ first ++ second =
      take-add line_digits line_digits (drop data_at text) ∙ ap (λ (l : List ℕ). first ++ take line_digits l) (drop-drop line_digits data_at text) in
      ap (λ (l : List ℕ). sets l line_digits second) one_gathered
      ∙ sets_middle first (zeros line_digits) (zeros line_digits) second line_digits (sym l₁) l₂
      ∙ rw (e, both) (sym (append_assoc first second (zeros line_digits)) ∙ ap (λ (l : List ℕ). l ++ zeros line_digits) (sym (append-nil (first ++ second))))

  gathered_is : gathered text ≡ front ++ (address_part text ++ (last_part count text ++ zeros 10))
  unfolding gathered
  gathered_is = go (eqb (length text) most_text) refl
    where
      go : (t : Bool) → eqb (length text) most_text ≡ t → with_place (cond t (two_lines text) (one_line text)) text ≡ front ++ (address_part text ++ (last_part count text ++ zeros 10))
      go true e = rw (two_front (eqb-true (length text) most_text e)) place_gathered
      go false e = rw (one_front (has_one (length text) h (eqb-false (length text) most_text e))) place_gathered

  all_digits_holds : all_digits (gathered text)
      ≡ (all_digits (data_part count text) && all_digits fill) && (all_digits (address_part text) && (all_digits (last_part count text) && all_digits (zeros 10)))
  unfolding front
  all_digits_holds =
      ap all_digits gathered_is
      ∙ rw (all_append front, all_append (data_part count text) fill, all_append (address_part text), all_append (last_part count text) (zeros 10))

  -- all of them are digits exactly if the text's are
  gathered_digits : all_digits (address_part text) ≡ true → all_digits (data_part count text) ≡ true → all_digits (last_part count text) ≡ true
      → all_digits (gathered text) ≡ true
  unfolding fill
  gathered_digits a d x = all_digits_holds ∙ rw (a, d, x, zeros_digits, zeros_digits)

  module _ (all : all_digits (gathered text) ≡ true) where
    abbrev in_front : Bool
    in_front = all_digits (data_part count text) && all_digits fill

    abbrev in_place : Bool
    in_place = all_digits (address_part text) && (all_digits (last_part count text) && all_digits (zeros 10))

    both : in_front && in_place ≡ true
    both = sym all_digits_holds ∙ all

    pub data_digits : all_digits (data_part count text) ≡ true
    data_digits = and_left (all_digits (data_part count text)) (all_digits fill) (and_left in_front in_place both)

    pub address_digits : all_digits (address_part text) ≡ true
    address_digits = and_left (all_digits (address_part text)) (all_digits (last_part count text) && all_digits (zeros 10)) (and_right in_front in_place both)

    pub check_digits : all_digits (last_part count text) ≡ true
    check_digits =
        and_left (all_digits (last_part count text)) (all_digits (zeros 10))
        (and_right (all_digits (address_part text)) (all_digits (last_part count text) && all_digits (zeros 10)) (and_right in_front in_place both))

    -- ---- what is read of them

    abbrev a : List ℕ
    a = address_read text

    abbrev d : List ℕ
    d = data_read count text

    abbrev x : List ℕ
    x = last_read count text

    module _ (digits values : List ℕ) (g : digits ≡ gathered text) (v : values ≡ map meant digits) where
      values_are : values ≡ map meant front ++ (map meant (address_part text ++ last_part count text) ++ map meant (zeros 10))
      values_are =
          v
          ∙ ap (map meant) (g ∙ gathered_is)
          ∙ rw (map-append meant, ← append_assoc (address_part text) (last_part count text) (zeros 10), map-append meant)

      in_front_many : length (map meant front) ≡ 2 * line_digits
      in_front_many = length-map front meant ∙ front_many

      module _ (held : List ℕ) (data_sum : ℕ) (b : ReadsBytes (take (32 - 0) (drop 0 values)) held data_sum) where
        held_is : held ≡ d ++ paired (map meant fill)
        unfolding front
        held_is =
            b.bytes
            ∙ rw (values_are, take_at (map meant front) (map meant (address_part text ++ last_part count text) ++ map meant (zeros 10)) (2 * line_digits) in_front_many)
            (ap paired (last_digits front (front_digits))
            ∙ rw (map-append meant) (paired_append (map meant (data_part count text)) (map meant fill) count (length-map (data_part count text) meant ∙ data_many text count many)))
          where
            front_digits : all_digits (data_part count text ++ fill) ≡ true
            front_digits = all_append (data_part count text) fill ∙ and_left in_front in_place both

        pub held_sum : data_sum ≡ sum_of d % 2 ^ byte_bits
        unfolding fill
        held_sum = b.total ∙ rw (held_is, sum_append, zeros_paired) (ap (λ (k : ℕ). k % 2 ^ byte_bits) (omega arith))

        pub held_front : take count held ≡ d
        held_front =
            rw held_is (take_at d (paired (map meant fill)) count (d_many text count many))

      module _ (place : List ℕ) (place_sum : ℕ) (b : ReadsBytes (take (38 - 32) (drop 32 values)) place place_sum) where
        place_is : place ≡ a ++ x
        place_is =
            let ax = address_part text ++ last_part count text in
            let long : length (map meant ax) ≡ 6 = length-map ax meant ∙ rw (length-append (address_part text), address_many text count many, last_many text count many) in
            let ax_digits : all_digits ax ≡ true = all_append (address_part text) (last_part count text) ∙ rw (address_digits, check_digits) in
            b.bytes
            ∙ rw (values_are, drop_at (map meant front) (map meant ax ++ map meant (zeros 10)) (2 * line_digits) in_front_many, take_at (map meant ax) (map meant (zeros 10)) 6 long)
            (ap paired (last_digits ax ax_digits)
            ∙ rw (map-append meant) (paired_append (map meant (address_part text)) (map meant (last_part count text)) address_bytes (length-map (address_part text) meant ∙ address_many text count many)))

        pub place_total : place_sum ≡ (sum_of a + sum_of x) % 2 ^ byte_bits
        place_total = b.total ∙ rw (place_is, sum_append)

        pub place_front : take address_bytes place ≡ a
        place_front = rw place_is (take_at a x address_bytes (a_many text count many))

  -- ---- the ways out

  -- a count of lines is offered for data alone
  offered_lines : (type address : ℕ)
      → eqb type data_type && (eqb count bytes_of_word || eqb count record_bytes)
      || eqb address 0 && (eqb type bank_type && eqb count address_bytes || eqb type end_type && eqb count 0) ≡ true
      → eqb type data_type ≡ true
  offered_lines type address e = go (eqb type data_type) (eqb address 0) (eqb type bank_type) (eqb type end_type) (rw (count_offered, no_bank, no_end) at e)
    where
      no_bank : eqb count address_bytes ≡ false
      no_bank = by_length (λ n. eqb (count_for n) address_bytes ≡ false) refl refl

      no_end : eqb count 0 ≡ false
      no_end = by_length (λ n. eqb (count_for n) 0 ≡ false) refl refl

      go : (t z b n : Bool) → t && true || z && (b && false || n && false) ≡ true → t ≡ true
      go true z b n f = refl
      go false true true true f = absurd (false≢true f)
      go false true true false f = absurd (false≢true f)
      go false true false true f = absurd (false≢true f)
      go false true false false f = absurd (false≢true f)
      go false false b n f = absurd (false≢true f)

  abbrev folded : List ℕ
  folded = in_capitals text

  lines_told : well_formed folded ≡ true → Told text count many data_type
  unfolding well_formed is_offered
  lines_told w =
      let r = record_told folded (and_left (is_record folded) (is_offered (content_of folded)) w) in
      let t = told text count many (content_of folded) r in
      let c = count_told text count many (content_of folded) r in
      let offered = rw c at (and_right (is_record folded) (is_offered (content_of folded)) w) in
      let is = eqb-true (type_in (content_of folded)) data_type (offered_lines (type_in (content_of folded)) (address_in (content_of folded)) offered) in
      rw is at t

  refused : (held : List ℕ) → (well_formed folded ≡ true → ⊥) → ReadsLines text held None
  refused held other = go (well_formed folded) refl
    where
      go : (t : Bool) → well_formed folded ≡ t → ReadsLines text held None
      go true e = absurd (other e)
      go false e = record { is = sym e; told = tt }

  pub not_framed : (r : Bool) → Decides (Framed text (digits_of (count ∷ [])) (digits_of (data_type ∷ []))) r → not r ≡ true
      → (held : List ℕ) → ReadsLines text held None
  unfolding digits_of digit
  not_framed r decides e held = refused held (λ w. false≢true (sym (not-true r e) ∙ decides.complete ((lines_told w).framed figures_count figures_kind)))
    where
      figures_count : Every (λ c. c < capital_a) (digits_of (count ∷ []))
      figures_count = by_length (λ n. Every (λ c. c < capital_a) (digits_of (count_for n ∷ []))) (omega arith, (omega arith, tt)) (omega arith, (omega arith, tt))

      figures_kind : Every (λ c. c < capital_a) (digits_of (data_type ∷ []))
      figures_kind = (omega arith, (omega arith, tt))

  pub not_digits : (digits values : List ℕ) (r : Bool) → digits ≡ gathered text → ReadsValues digits values r → not r ≡ true
      → (held : List ℕ) → ReadsLines text held None
  not_digits digits values r g reads e held =
      refused held (λ w. let t = lines_told w in
      false≢true (sym (not-true r e) ∙ reads.all ∙ ap all_digits g ∙ gathered_digits t.address t.data_digits t.last_digits))

  -- framed, and all digits: a record if the sum is 0
  module _ (framed : Framed text (digits_of (count ∷ [])) (digits_of (data_type ∷ []))) (all : all_digits (gathered text) ≡ true) where
    abbrev c : List ℕ
    c = content_read count data_type text

    module _ (zero_sum : sum_of c % 2 ^ byte_bits ≡ 0) where
      read : ReadAs text count data_type
      read =
          read_as text count many data_type
          record {
            framed = framed;
            count_byte = omega (arith, count_few);
            kind_byte = omega arith;
            address = address_digits all;
            data_digits = data_digits all;
            last_digits = check_digits all;
          }
          zero_sum

      formed : well_formed folded ≡ true
      unfolding well_formed is_offered
      formed = rw (read.is, read.type_is, read.count_is, count_offered)

      lines_read : (held place : List ℕ) (from : ℕ) → take count held ≡ data_read count text → take address_bytes place ≡ address_read text
          → from ≡ word_of (take address_bytes place) → from < bank_bytes → LinesRead (content_of folded) held count from
      lines_read held place from h p e below =
          record { type = read.type_is; count_is = read.count_is; address = read.address_is ∙ ap word_of (sym p) ∙ sym e; below = below; data_is = read.held_is ∙ sym h }

  module _ (f : Bool) (decides : Decides (Framed text (digits_of (count ∷ [])) (digits_of (data_type ∷ []))) f) (e : not f ≡ false)
      (digits values : List ℕ) (r : Bool) (g : digits ≡ gathered text) (reads : ReadsValues digits values r) (k : not r ≡ false)
      (held place : List ℕ) (data_sum place_sum n : ℕ) (c' : LineCount (length text) n)
      (bh : ReadsBytes (take (32 - 0) (drop 0 values)) held data_sum) (bp : ReadsBytes (take (38 - 32) (drop 32 values)) place place_sum) where
    abbrev total : ℕ
    total = ((data_sum + place_sum) % 2 ^ byte_bits + n) % 2 ^ byte_bits

    all_read : all_digits (gathered text) ≡ true
    all_read = sym (ap all_digits g) ∙ sym reads.all ∙ not-false r k

    values_read : values ≡ map meant digits
    values_read = reads.values (ap all_digits g ∙ all_read)

    whole_sum : total ≡ sum_of (content_read count data_type text) % 2 ^ byte_bits
    whole_sum =
        let hs = held_sum all_read digits values g values_read held data_sum bh in
        let ps = place_total all_read digits values g values_read place place_sum bp in
        total_is count (sum_of (address_read text)) (sum_of (data_read count text)) (sum_of (last_read count text)) data_sum place_sum ((data_sum + place_sum) % 2 ^ byte_bits) total
        (sum_of (content_read count data_type text)) hs ps refl (ap (λ (k : ℕ). ((data_sum + place_sum) % 2 ^ byte_bits + k) % 2 ^ byte_bits) c'.is) (content_sum text count many data_type)

    pub lines_sum_off : (total ≡ 0 → ⊥) → ReadsLines text held None
    lines_sum_off other = refused held (λ w. other (whole_sum ∙ (lines_told w).sum))

    pub lines_whole : total ≡ 0 → length place ≡ address_bytes + 1 → (from : ℕ) → from < bank_bytes
        → from ≡ from_be_bytes w16 (get_or place 0 0 ∷ get_or place 1 0 ∷ []) → ReadsLines text held (Some from)
    lines_whole z long from below is =
        let framed = decides.sound (not-false f e) in
        let zero_sum = sym whole_sum ∙ z in
        record {
          is = sym (formed framed all_read zero_sum);
          told =
              lines_read framed all_read zero_sum held place from
              (held_front all_read digits values g values_read held data_sum bh) (place_front all_read digits values g values_read place place_sum bp)
              (is ∙ two_bytes_are (get_or place 0 0) (get_or place 1 0) ∙ ap word_of (sym (two_at 0 place (omega (arith, long))))) below;
        }
