-- The texts of banks: what the tests of the code tell of them.
use Rattle.std.proofs.Common.{◌≡◌, ℕ, zero, suc, ◌+◌, ◌*◌, ◌%◌, ◌^◌, ◌<◌, Bool, true, false, not, ◌&&◌, ◌||◌, eqb, List, [], ◌∷◌, ◌++◌, map, length, get_or, take, drop, sym, refl, ap, ap₂, ◌∙◌, arith, drop-drop, take-add, eqb-true}
use mathlib.Core.Bool.{false≢true}
use mathlib.Core.List.{map-append}
use borrow.Author.Tests.{not-true, not-false}
use lib.ListN.{length-map}
use Rattle.base.specs.Every.{Every}
use Rattle.base.specs.Tests.{and_left, and_right}
use Rattle.layout.specs.Bytes.{byte_bits, bytes_of_word, word_of}
use Rattle.layout.specs.Fields.{pack, width}
use Rattle.std.specs.Prelude.{Some, None}
use Rattle.std.specs.List.{list_all}
use Rattle.intel_hex.specs.Records.{digit, byte_digits, digits_of, sum_of, address_bytes, bank_type, data_type, record_bytes}
use Rattle.intel_hex.specs.Laws.{end_type}
use Rattle.intel_hex.specs.Reading.{place_in, address_in, type_in}
use Rattle.intel_hex.specs.Contents.{value_of, paired, content_of}
use Rattle.intel_hex.specs.Import.{capital, in_capitals, is_record, is_offered, well_formed}
use Rattle.intel_hex.specs.Laws.{bare_text}
use Rattle.intel_hex.specs.RecordTexts.{record_told}
use Rattle.intel_hex.specs.Promises.{text_bytes, data_at, meant, all_digits, Decides, Framed, ReadsValues, ReadsBytes, zeros, zero_digit, ReadsBank}
use Rattle.intel_hex.proofs.ByteDigits.{sum_append}
use Rattle.intel_hex.proofs.DigitReading.{all_append}
use Rattle.intel_hex.proofs.TextDigits.{capital_a, plain_all, last_digits, digits_back}
use Rattle.intel_hex.proofs.TextParts.{address_part, data_part, last_part, address_read, data_read, last_read, content_read, Readable, ReadAs}
use Rattle.intel_hex.proofs.TextParts.{address_many, data_many, a_many, d_many, content_sum, read_as, Told, count_told, told}
use Rattle.std.specs.Int.{w16, from_be_bytes}
use Rattle.intel_hex.proofs.RecordParts.{two_bytes_are}
use Rattle.intel_hex.proofs.LineTexts.{paired_append, steps_join}

-- two bytes that are 0, and any two
two_zeros : (a : List ℕ) → length a ≡ address_bytes → word_of a ≡ 0 → a ≡ 0 ∷ 0 ∷ []
unfolding word_of pack width
two_zeros [] many e = absurd (omega arith)
two_zeros (h ∷ []) many e = absurd (omega arith)
two_zeros (h ∷ l ∷ []) many e =
    let high : h ≡ 0 = omega arith in
    let low : l ≡ 0 = omega arith in
    rw (high, low)
two_zeros (h ∷ l ∷ m ∷ a) many e = absurd (omega arith)

two_bytes_holds : (d x : List ℕ) → length d ≡ address_bytes → d ≡ get_or (d ++ x) 0 0 ∷ get_or (d ++ x) 1 0 ∷ []
two_bytes_holds [] x many = absurd (omega arith)
two_bytes_holds (h ∷ []) x many = absurd (omega arith)
two_bytes_holds (h ∷ l ∷ []) x many = refl
two_bytes_holds (h ∷ l ∷ m ∷ d) x many = absurd (omega arith)

module _ (text : List ℕ) (long : length text ≡ text_bytes address_bytes) where
  many : length text ≡ bare_text + byte_digits * address_bytes
  many = long

  abbrev folded : List ℕ
  folded = in_capitals text

  -- ---- a record is framed, has address 0 and has digits

  offered_bank : (type address : ℕ)
      → eqb type data_type && (eqb address_bytes bytes_of_word || eqb address_bytes record_bytes)
      || eqb address 0 && (eqb type bank_type && eqb address_bytes address_bytes || eqb type end_type && eqb address_bytes 0) ≡ true
      → (eqb type bank_type ≡ true) × (eqb address 0 ≡ true)
  offered_bank type address e = go (eqb type data_type) (eqb address 0) (eqb type bank_type) (eqb type end_type) e
    where
      go : (t z b n : Bool) → t && false || z && (b && true || n && false) ≡ true → (b ≡ true) × (z ≡ true)
      go t true true n f = (refl, refl)
      go true true false true f = absurd (false≢true f)
      go true true false false f = absurd (false≢true f)
      go false true false true f = absurd (false≢true f)
      go false true false false f = absurd (false≢true f)
      go true false b n f = absurd (false≢true f)
      go false false b n f = absurd (false≢true f)

  figures_count : Every (λ c. c < capital_a) (digits_of (address_bytes ∷ []))
  unfolding digits_of digit
  figures_count = (omega arith, (omega arith, tt))

  figures_kind : Every (λ c. c < capital_a) (digits_of (bank_type ∷ []))
  unfolding digits_of digit
  figures_kind = (omega arith, (omega arith, tt))

  -- ---- what is framed, has digits and sums to 0

  module _ (p : Readable text address_bytes bank_type) (zero_sum : sum_of (content_read address_bytes bank_type text) % 2 ^ byte_bits ≡ 0) where
    read : ReadAs text address_bytes bank_type
    read = read_as text address_bytes many bank_type p zero_sum

    formed : word_of (address_read text) ≡ 0 → well_formed folded ≡ true
    unfolding well_formed is_offered
    formed z = rw (read.is, read.type_is, read.count_is, read.address_is, z)

    zero_address : address_in (content_of folded) ≡ 0 → address_part text ≡ zeros (byte_digits * address_bytes)
    unfolding digits_of digit
    zero_address e =
        let none : address_read text ≡ 0 ∷ 0 ∷ [] = two_zeros (address_read text) (a_many text address_bytes many) (sym read.address_is ∙ e) in
        plain_all (address_part text) (zeros (byte_digits * address_bytes)) (omega arith, (omega arith, (omega arith, (omega arith, tt))))
        (digits_back (address_part text) address_bytes (address_many text address_bytes many) p.address ∙ ap digits_of none)

  -- ---- the ways out

  -- a record that is taken, told part by part
  record Taken : Type 0 where
    readable : Readable text address_bytes bank_type
    zero_sum : sum_of (content_read address_bytes bank_type text) % 2 ^ byte_bits ≡ 0
    address_zeros : address_part text ≡ zeros (byte_digits * address_bytes)

  bank_told : well_formed folded ≡ true → Taken
  unfolding well_formed is_offered
  bank_told w =
      let r = record_told folded (and_left (is_record folded) (is_offered (content_of folded)) w) in
      let n = count_told text address_bytes many (content_of folded) r in
      let offered = rw n at (and_right (is_record folded) (is_offered (content_of folded)) w) in
      let kinds = offered_bank (type_in (content_of folded)) (address_in (content_of folded)) offered in
      let is = eqb-true (type_in (content_of folded)) bank_type kinds.0 in
      let t : Told text address_bytes many bank_type = rw is at (told text address_bytes many (content_of folded) r) in
      let readable : Readable text address_bytes bank_type =
      record {
        framed = t.framed figures_count figures_kind;
        count_byte = omega arith;
        kind_byte = omega arith;
        address = t.address;
        data_digits = t.data_digits;
        last_digits = t.last_digits;
      } in
      record { readable = readable; zero_sum = t.sum; address_zeros = zero_address readable t.sum (eqb-true (address_in (content_of folded)) 0 kinds.1) }

  refused : (well_formed folded ≡ true → ⊥) → ReadsBank text None
  refused other = go (well_formed folded) refl
    where
      go : (t : Bool) → well_formed folded ≡ t → ReadsBank text None
      go true e = absurd (other e)
      go false e = record { is = sym e; told = tt }

  pub bank_not_framed : (t : Bool) → Decides (Framed text (48 ∷ 50 ∷ []) (48 ∷ 52 ∷ [])) t → not t ≡ true → ReadsBank text None
  unfolding digits_of digit
  bank_not_framed t decides e = refused (λ w. false≢true (sym (not-true t e) ∙ decides.complete (bank_told w).readable.framed))

  -- digits that are all zeros, and the other way round
  abbrev is_zero : ℕ → Bool
  is_zero d = eqb d zero_digit

  all_zeros : (ds : List ℕ) (n : ℕ) → length ds ≡ n → list_all is_zero ds ≡ true → ds ≡ zeros n
  all_zeros [] zero many e = refl
  all_zeros [] (suc n) many e = absurd (omega arith)
  all_zeros (d ∷ ds) zero many e = absurd (omega arith)
  all_zeros (d ∷ ds) (suc n) many e =
      ap₂ ◌∷◌ (eqb-true d zero_digit (and_left (is_zero d) (list_all is_zero ds) e)) (all_zeros ds n (omega arith) (and_right (is_zero d) (list_all is_zero ds) e))

  pub bank_elsewhere : (t : Bool) → t ≡ list_all is_zero (address_part text) → not t ≡ true → ReadsBank text None
  bank_elsewhere t is e =
      refused (λ w. false≢true (sym (not-true t e) ∙ is ∙ ap (list_all is_zero) (bank_told w).address_zeros))

  -- the digits of the data and of the last byte
  behind_type : take 6 (drop data_at text) ≡ data_part address_bytes text ++ last_part address_bytes text
  behind_type = take-add 4 2 (drop data_at text) ∙ ap (λ (l : List ℕ). data_part address_bytes text ++ take byte_digits l) (drop-drop 4 data_at text)

  module _ (values : List ℕ) (t : Bool) (reads : ReadsValues (take 6 (drop data_at text)) values t) where
    split : t ≡ all_digits (data_part address_bytes text) && all_digits (last_part address_bytes text)
    split = reads.all ∙ ap all_digits behind_type ∙ all_append (data_part address_bytes text) (last_part address_bytes text)

    pub bank_not_digits : not t ≡ true → ReadsBank text None
    bank_not_digits e =
        refused (λ w. let b = bank_told w in false≢true (sym (not-true t e) ∙ split ∙ rw (b.readable.data_digits, b.readable.last_digits)))

    module _ (fits : not t ≡ false) (bytes : List ℕ) (sum : ℕ) (b : ReadsBytes values bytes sum)
        (z : Bool) (zeros_told : z ≡ list_all is_zero (address_part text)) (zero_all : not z ≡ false) where
      abbrev total : ℕ
      total = (sum + 6) % 2 ^ byte_bits

      both : all_digits (data_part address_bytes text) && all_digits (last_part address_bytes text) ≡ true
      both = sym split ∙ not-false t fits

      d_digits : all_digits (data_part address_bytes text) ≡ true
      d_digits = and_left (all_digits (data_part address_bytes text)) (all_digits (last_part address_bytes text)) both

      x_digits : all_digits (last_part address_bytes text) ≡ true
      x_digits = and_right (all_digits (data_part address_bytes text)) (all_digits (last_part address_bytes text)) both

      address_is : address_part text ≡ zeros (byte_digits * address_bytes)
      address_is =
          all_zeros (address_part text) (byte_digits * address_bytes) (address_many text address_bytes many) (sym zeros_told ∙ not-false z zero_all)

      a_digits : all_digits (address_part text) ≡ true
      unfolding all_digits value_of capital place_in
      a_digits = ap all_digits address_is

      a_none : address_read text ≡ 0 ∷ 0 ∷ []
      unfolding paired value_of capital place_in
      a_none = ap (λ (l : List ℕ). paired (map meant l)) address_is

      bytes_are : bytes ≡ data_read address_bytes text ++ last_read address_bytes text
      bytes_are =
          let dx = data_part address_bytes text ++ last_part address_bytes text in
          let dx_digits : all_digits dx ≡ true = all_append (data_part address_bytes text) (last_part address_bytes text) ∙ both in
          let v : values ≡ map meant dx = reads.values (sym reads.all ∙ not-false t fits) ∙ ap (map meant) behind_type in
          b.bytes
          ∙ rw v (ap paired (last_digits dx dx_digits)
          ∙ rw (map-append meant) (paired_append (map meant (data_part address_bytes text)) (map meant (last_part address_bytes text)) address_bytes
          (length-map (data_part address_bytes text) meant ∙ data_many text address_bytes many)))

      total_is : total ≡ sum_of (content_read address_bytes bank_type text) % 2 ^ byte_bits
      unfolding sum_of
      total_is =
          let all : sum_of (content_read address_bytes bank_type text) ≡ sum_of bytes + 6 =
          content_sum text address_bytes many bank_type ∙ rw (a_none, bytes_are, sum_append) (omega arith) in
          steps_join (sum_of bytes) sum 6 b.total ∙ ap (λ (n : ℕ). n % 2 ^ byte_bits) (sym all)

      pub bank_sum_off : (total ≡ 0 → ⊥) → ReadsBank text None
      bank_sum_off other = refused (λ w. other (total_is ∙ (bank_told w).zero_sum))

      pub bank_whole : (t' : Bool) → Decides (Framed text (48 ∷ 50 ∷ []) (48 ∷ 52 ∷ [])) t' → not t' ≡ false → total ≡ 0 → (bank : ℕ)
          → bank ≡ from_be_bytes w16 (get_or bytes 0 0 ∷ get_or bytes 1 0 ∷ []) → ReadsBank text (Some bank)
      unfolding digits_of digit word_of pack width
      bank_whole t' decides e z₀ bank n =
          let readable : Readable text address_bytes bank_type =
          record {
            framed = decides.sound (not-false t' e);
            count_byte = omega arith;
            kind_byte = omega arith;
            address = a_digits;
            data_digits = d_digits;
            last_digits = x_digits;
          } in
          let zero_sum = sym total_is ∙ z₀ in
          let told = read readable zero_sum in
          let pair : data_read address_bytes text ≡ get_or bytes 0 0 ∷ get_or bytes 1 0 ∷ [] =
          two_bytes_holds (data_read address_bytes text) (last_read address_bytes text) (d_many text address_bytes many) ∙ rw (← bytes_are) in
          record {
            is = sym (formed readable zero_sum (ap word_of a_none));
            told = record { type = told.type_is; bank_is = ap word_of (told.held_is ∙ pair) ∙ sym (n ∙ two_bytes_are (get_or bytes 0 0) (get_or bytes 1 0)) };
          }
