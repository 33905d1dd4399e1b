-- The parts of a record's text: what is the same in every record of a kind, and the digits between.
use Rattle.std.proofs.Common.{◌≡◌, ℕ, suc, ◌+◌, ◌-◌, ◌*◌, ◌%◌, ◌^◌, ◌<◌, ◌≤◌, true, List, [], ◌∷◌, ◌++◌, map, length, get_or, take, drop, sym, refl, ap, ◌∙◌, append_assoc, arith, length-append, length-drop, take-append-drop, drop_of_length-le, length-take-le, get_or-drop, drop-cons, drop-drop, take_at, drop_at}
use mathlib.Core.List.{map-append}
use lib.ListN.{length-map}
use Rattle.base.specs.Every.{Every}
use Rattle.layout.specs.Bytes.{byte_bits, word_of, AreBytes, bytes_cons, bytes_append, bytes_take, bytes_drop}
use Rattle.intel_hex.specs.Records.{byte_digits, digits_of, line_feed, text_of, sum_of, address_bytes}
use Rattle.intel_hex.specs.Reading.{place_in, type_at, held_at, count_in, address_in, type_in, held_in}
use Rattle.intel_hex.specs.Contents.{paired, content_of}
use Rattle.intel_hex.specs.Laws.{bare_bytes, bare_text, digits_many, text_many}
use Rattle.intel_hex.specs.RecordTexts.{IsRecord, told_record, content_is}
use Rattle.intel_hex.specs.Import.{capital, in_capitals, is_record}
use Rattle.intel_hex.specs.Promises.{data_at, meant, all_digits, count_from, address_from, type_from, colon_mark, Framed}
use Rattle.intel_hex.proofs.ByteDigits.{digits_append, sum_append}
use Rattle.intel_hex.proofs.DigitReading.{paired_many}
use Rattle.intel_hex.proofs.TextDigits.{capital_a, plain_is, plain_all, digits_back, digits_told, paired_bytes, capital_digits}

-- ---- a text of a record with so many bytes of data

abbrev pub address_part : List ℕ → List ℕ
address_part text = take (byte_digits * address_bytes) (drop address_from text)

abbrev pub data_part : (count : ℕ) → List ℕ → List ℕ
data_part count text = take (byte_digits * count) (drop data_at text)

abbrev pub last_part : (count : ℕ) → List ℕ → List ℕ
last_part count text = take byte_digits (drop (data_at + byte_digits * count) text)

abbrev count_part : List ℕ → List ℕ
count_part text = take byte_digits (drop count_from text)

abbrev type_part : List ℕ → List ℕ
type_part text = take byte_digits (drop type_from text)

-- the bytes that their digits stand for, and the content of a record that has them
abbrev pub address_read : List ℕ → List ℕ
address_read text = paired (map meant (address_part text))

abbrev pub data_read : (count : ℕ) → List ℕ → List ℕ
data_read count text = paired (map meant (data_part count text))

abbrev pub last_read : (count : ℕ) → List ℕ → List ℕ
last_read count text = paired (map meant (last_part count text))

abbrev pub content_read : (count kind : ℕ) → List ℕ → List ℕ
content_read count kind text = count ∷ (address_read text ++ (kind ∷ (data_read count text ++ last_read count text)))

-- a text that is framed and has digits
pub record Readable (text : List ℕ) (count kind : ℕ) : Type 0 where
  pub framed : Framed text (digits_of (count ∷ [])) (digits_of (kind ∷ []))
  pub count_byte : count < 2 ^ byte_bits
  pub kind_byte : kind < 2 ^ byte_bits
  pub address : all_digits (address_part text) ≡ true
  pub data_digits : all_digits (data_part count text) ≡ true
  pub last_digits : all_digits (last_part count text) ≡ true

-- what it says, if it is a record
pub record ReadAs (text : List ℕ) (count kind : ℕ) : Type 0 where
  pub is : is_record (in_capitals text) ≡ true
  pub type_is : type_in (content_of (in_capitals text)) ≡ kind
  pub count_is : count_in (content_of (in_capitals text)) ≡ count
  pub address_is : address_in (content_of (in_capitals text)) ≡ word_of (address_read text)
  pub held_is : held_in (content_of (in_capitals text)) ≡ data_read count text

-- a list from a place on: its first numbers from there, and the others
from_place : (at n : ℕ) (l : List ℕ) → drop at l ≡ take n (drop at l) ++ drop (at + n) l
from_place at n l = sym (take-append-drop n (drop at l)) ∙ ap (λ (rest : List ℕ). take n (drop at l) ++ rest) (drop-drop n at l)

-- two of them
pub two_at : (at : ℕ) (l : List ℕ) → at + 2 ≤ length l → take byte_digits (drop at l) ≡ get_or l at 0 ∷ get_or l (suc at) 0 ∷ []
two_at at l h = rw (drop-cons l at 0 (omega (arith, h)), drop-cons l (suc at) 0 (omega (arith, h)))

-- the digits of a record's bytes, part by part
content_digits : (count kind : ℕ) (a d x : List ℕ)
    → text_of (count ∷ (a ++ (kind ∷ (d ++ x))))
    ≡ colon_mark ∷ (digits_of (count ∷ []) ++ (digits_of a ++ (digits_of (kind ∷ []) ++ (digits_of d ++ (digits_of x ++ (line_feed ∷ []))))))
unfolding text_of digits_of
content_digits count kind a d x =
    rw (digits_append a (kind ∷ (d ++ x)), digits_append d x, append_assoc (digits_of a), append_assoc (digits_of d) (digits_of x) (line_feed ∷ []))

-- equal lists of two parts each, the first of one length
record Same (xs ys us vs : List ℕ) : Type 0 where
  front : xs ≡ us
  back : ys ≡ vs

parts_same : (xs ys us vs : List ℕ) (n : ℕ) → xs ++ ys ≡ us ++ vs → length xs ≡ n → length us ≡ n → Same xs ys us vs
parts_same xs ys us vs n e a b =
    record {
      front = sym (take_at xs ys n a) ∙ ap (take n) e ∙ take_at us vs n b;
      back = sym (drop_at xs ys n a) ∙ ap (drop n) e ∙ drop_at us vs n b;
    }

module _ (text : List ℕ) (count : ℕ) (many : length text ≡ bare_text + byte_digits * count) where
  abbrev last : ℕ
  last = data_at + byte_digits * count + byte_digits

  abbrev behind : List ℕ
  behind = last_part count text ++ (get_or text last 0 ∷ [])

  pub parts : text ≡ get_or text 0 0 ∷ (count_part text ++ (address_part text ++ (type_part text ++ (data_part count text ++ behind))))
  parts =
      let none : drop (suc last) text ≡ [] = drop_of_length-le text {i = suc last} (omega (arith, many)) in
      let end : drop last text ≡ get_or text last 0 ∷ [] = drop-cons text last 0 (omega (arith, many)) ∙ ap (λ (l : List ℕ). get_or text last 0 ∷ l) none in
      drop-cons text 0 0 (omega (arith, many))
      ∙ ap (λ (l : List ℕ). get_or text 0 0 ∷ l)
      (from_place 1 byte_digits text
      ∙ ap (λ (l : List ℕ). count_part text ++ l)
      (from_place 3 (byte_digits * address_bytes) text
      ∙ ap (λ (l : List ℕ). address_part text ++ l)
      (from_place 7 byte_digits text
      ∙ ap (λ (l : List ℕ). type_part text ++ l)
      (from_place data_at (byte_digits * count) text
      ∙ ap (λ (l : List ℕ). data_part count text ++ l)
      (from_place (data_at + byte_digits * count) byte_digits text ∙ ap (λ (l : List ℕ). last_part count text ++ l) end)))))

  part_many : (at n : ℕ) → at + n ≤ length text → length (take n (drop at text)) ≡ n
  part_many at n h = length-take-le n (drop at text) (rw (length-drop at text) (omega (arith, h)))

  count_many : length (count_part text) ≡ byte_digits
  count_many = part_many 1 byte_digits (omega (arith, many))

  pub address_many : length (address_part text) ≡ byte_digits * address_bytes
  address_many = part_many 3 (byte_digits * address_bytes) (omega (arith, many))

  type_many : length (type_part text) ≡ byte_digits
  type_many = part_many 7 byte_digits (omega (arith, many))

  pub data_many : length (data_part count text) ≡ byte_digits * count
  data_many = part_many data_at (byte_digits * count) (omega (arith, many))

  pub last_many : length (last_part count text) ≡ byte_digits
  last_many = part_many (data_at + byte_digits * count) byte_digits (omega (arith, many))

  -- ---- what is framed and has digits is a record, if its sum is 0

  abbrev a : List ℕ
  a = address_read text

  abbrev d : List ℕ
  d = data_read count text

  abbrev x : List ℕ
  x = last_read count text

  pub a_many : length a ≡ address_bytes
  a_many = paired_many (map meant (address_part text)) address_bytes (length-map (address_part text) meant ∙ address_many)

  pub d_many : length d ≡ count
  d_many = paired_many (map meant (data_part count text)) count (length-map (data_part count text) meant ∙ data_many)

  x_many : length x ≡ 1
  x_many = paired_many (map meant (last_part count text)) 1 (length-map (last_part count text) meant ∙ last_many)

  module _ (kind : ℕ) where
    abbrev content : List ℕ
    content = content_read count kind text

    pub content_sum : sum_of content ≡ count + (sum_of a + (kind + (sum_of d + sum_of x)))
    unfolding sum_of
    content_sum = rw (sum_append a (kind ∷ (d ++ x)), sum_append d x)

    module _ (p : Readable text count kind) where
      one_byte : (b : ℕ) → b < 2 ^ byte_bits → AreBytes (b ∷ [])
      one_byte b h = bytes_cons b [] h (λ i. omega arith)

      feed_at : get_or text last 0 ≡ line_feed
      feed_at = let e : length text - 1 ≡ last = omega (arith, many) in rw e at p.framed.feed

      count_at : count_part text ≡ digits_of (count ∷ [])
      unfolding digits_of
      count_at = two_at 1 text (omega (arith, many)) ∙ rw (p.framed.count_high, p.framed.count_low)

      kind_at : type_part text ≡ digits_of (kind ∷ [])
      unfolding digits_of
      kind_at = two_at 7 text (omega (arith, many)) ∙ rw (p.framed.kind_high, p.framed.kind_low)

      parts_framed : text ≡ colon_mark ∷ (digits_of (count ∷ []) ++ (address_part text ++ (digits_of (kind ∷ []) ++ (data_part count text ++ (last_part count text ++ (line_feed ∷ []))))))
      parts_framed = rw (p.framed.colon, count_at, kind_at, feed_at) at parts

      text_folded : in_capitals text ≡ text_of content
      unfolding capital place_in
      text_folded =
          ap (map capital) parts_framed
          ∙ rw (
            map-append capital,
            map-append capital,
            map-append capital,
            map-append capital,
            map-append capital,
            capital_digits (count ∷ []) (one_byte count p.count_byte),
            capital_digits (kind ∷ []) (one_byte kind p.kind_byte),
            digits_back (address_part text) address_bytes address_many p.address,
            digits_back (data_part count text) count data_many p.data_digits,
            digits_back (last_part count text) 1 last_many p.last_digits,
          ) (sym (content_digits count kind a d x))

      content_bytes : AreBytes content
      content_bytes =
          bytes_cons count (a ++ (kind ∷ (d ++ x))) p.count_byte
          (bytes_append a (kind ∷ (d ++ x)) (paired_bytes (address_part text) p.address)
          (bytes_cons kind (d ++ x) p.kind_byte
          (bytes_append d x (paired_bytes (data_part count text) p.data_digits) (paired_bytes (last_part count text) p.last_digits))))

      module _ (zero_sum : sum_of content % 2 ^ byte_bits ≡ 0) where
        framed_record : IsRecord content (in_capitals text)
        unfolding count_in
        framed_record =
            record {
              bytes = content_bytes;
              text_is = text_folded;
              many = rw (length-append a (kind ∷ (d ++ x)), a_many, length-append d x, d_many, x_many) (omega arith);
              sum = zero_sum;
            }

        behind_address : drop address_bytes (a ++ (kind ∷ (d ++ x))) ≡ kind ∷ (d ++ x)
        behind_address = drop_at a (kind ∷ (d ++ x)) address_bytes a_many

        pub read_as : ReadAs text count kind
        unfolding type_in address_in held_in count_in
        read_as =
            let told = content_is content (in_capitals text) framed_record in
            record {
              is = told_record content (in_capitals text) framed_record;
              type_is = rw told (sym (get_or-drop address_bytes (a ++ (kind ∷ (d ++ x))) 0 0) ∙ ap (λ (l : List ℕ). get_or l 0 0) behind_address);
              count_is = rw told;
              address_is = rw told (ap word_of (take_at a (kind ∷ (d ++ x)) address_bytes a_many));
              held_is =
                  rw told (ap (take count) (sym (drop-drop 1 address_bytes (a ++ (kind ∷ (d ++ x)))) ∙ ap (drop 1) behind_address) ∙ take_at d x count d_many);
            }

  -- ---- and a record is framed and has digits

  -- what it tells of its text
  pub record Told (kind : ℕ) : Type 0 where
    pub framed : Every (λ c. c < capital_a) (digits_of (count ∷ [])) → Every (λ c. c < capital_a) (digits_of (kind ∷ []))
        → Framed text (digits_of (count ∷ [])) (digits_of (kind ∷ []))
    pub address : all_digits (address_part text) ≡ true
    pub data_digits : all_digits (data_part count text) ≡ true
    pub last_digits : all_digits (last_part count text) ≡ true
    pub sum : sum_of (content_read count kind text) % 2 ^ byte_bits ≡ 0

  module _ (content : List ℕ) (r : IsRecord content (in_capitals text)) where
    content_many : length content ≡ bare_bytes + count
    content_many =
        let all = ap length r.text_is ∙ text_many content in
        omega (arith, all, length-map text capital, many)

    pub count_told : count_in content ≡ count
    count_told = omega (arith, content_many, r.many)

    abbrev kind : ℕ
    kind = type_in content

    abbrev address : List ℕ
    address = take address_bytes (drop 1 content)

    abbrev held : List ℕ
    held = take count (drop held_at content)

    abbrev rest : List ℕ
    rest = drop (held_at + count) content

    content_parts : content ≡ count ∷ (address ++ (kind ∷ (held ++ rest)))
    unfolding type_in count_in
    content_parts =
        let first : get_or content 0 0 ≡ count = count_told in
        drop-cons content 0 0 (omega (arith, content_many))
        ∙ rw first (ap (λ (l : List ℕ). count ∷ l)
        (from_place 1 address_bytes content
        ∙ ap (λ (l : List ℕ). address ++ l)
        (drop-cons content type_at 0 (omega (arith, content_many)) ∙ ap (λ (l : List ℕ). kind ∷ l) (from_place held_at count content))))

    both_texts : capital (get_or text 0 0) ∷ (map capital (count_part text) ++ (map capital (address_part text) ++ (map capital (type_part text)
        ++ (map capital (data_part count text) ++ (map capital (last_part count text) ++ (capital (get_or text last 0) ∷ []))))))
        ≡ colon_mark ∷ (digits_of (count ∷ []) ++ (digits_of address ++ (digits_of (kind ∷ []) ++ (digits_of held ++ (digits_of rest ++ (line_feed ∷ []))))))
    both_texts =
        sym (ap (map capital) parts ∙ rw (map-append capital, map-append capital, map-append capital, map-append capital, map-append capital))
        ∙ r.text_is
        ∙ ap text_of content_parts
        ∙ content_digits count kind address held rest

    folded_many : (cs : List ℕ) (n : ℕ) → length cs ≡ n → length (map capital cs) ≡ n
    folded_many cs n e = length-map cs capital ∙ e

    bytes_many : (bs : List ℕ) (n : ℕ) → length bs ≡ n → length (digits_of bs) ≡ byte_digits * n
    bytes_many bs n e = digits_many bs ∙ ap (λ (k : ℕ). byte_digits * k) e

    cut_many : (at n : ℕ) → at + n ≤ length content → length (take n (drop at content)) ≡ n
    cut_many at n h = length-take-le n (drop at content) (rw (length-drop at content) (omega (arith, h)))

    pub told : Told kind
    unfolding digits_of
    told =
        let c = map capital (count_part text) in
        let a = map capital (address_part text) in
        let k = map capital (type_part text) in
        let d = map capital (data_part count text) in
        let x = map capital (last_part count text) in
        let l₁ = folded_many (count_part text) byte_digits count_many in
        let l₂ = folded_many (address_part text) (byte_digits * address_bytes) address_many in
        let l₃ = folded_many (type_part text) byte_digits type_many in
        let l₄ = folded_many (data_part count text) (byte_digits * count) data_many in
        let l₅ = folded_many (last_part count text) byte_digits last_many in
        let m₂ = bytes_many address address_bytes (cut_many 1 address_bytes (omega (arith, content_many))) in
        let m₄ = bytes_many held count (cut_many held_at count (omega (arith, content_many))) in
        let m₅ = bytes_many rest 1 (length-drop (held_at + count) content ∙ omega (arith, content_many)) in
        let end = capital (get_or text last 0) ∷ [] in
        let z = line_feed ∷ [] in
        let a' = digits_of address in
        let k' = digits_of (kind ∷ []) in
        let d' = digits_of held in
        let x' = digits_of rest in
        let s₁ = parts_same c (a ++ (k ++ (d ++ (x ++ end)))) (digits_of (count ∷ [])) (a' ++ (k' ++ (d' ++ (x' ++ z)))) byte_digits (ap (drop 1) both_texts) l₁ refl in
        let s₂ = parts_same a (k ++ (d ++ (x ++ end))) a' (k' ++ (d' ++ (x' ++ z))) (byte_digits * address_bytes) s₁.back l₂ m₂ in
        let s₃ = parts_same k (d ++ (x ++ end)) k' (d' ++ (x' ++ z)) byte_digits s₂.back l₃ refl in
        let s₄ = parts_same d (x ++ end) d' (x' ++ z) (byte_digits * count) s₃.back l₄ m₄ in
        let s₅ = parts_same x end x' z byte_digits s₄.back l₅ m₅ in
        let count_at = two_at 1 text (omega (arith, many)) in
        let kind_at = two_at 7 text (omega (arith, many)) in
        let count_same : Every (λ c. c < capital_a) (digits_of (count ∷ [])) → count_part text ≡ digits_of (count ∷ []) = λ figures. plain_all (count_part text) (digits_of (count ∷ [])) figures s₁.front in
        let kind_same : Every (λ c. c < capital_a) (digits_of (kind ∷ [])) → type_part text ≡ digits_of (kind ∷ []) = λ figures. plain_all (type_part text) (digits_of (kind ∷ [])) figures s₃.front in
        let digits_a = digits_told (address_part text) address (bytes_take address_bytes (drop 1 content) (bytes_drop 1 content r.bytes)) s₂.front in
        let digits_d = digits_told (data_part count text) held (bytes_take count (drop held_at content) (bytes_drop held_at content r.bytes)) s₄.front in
        let digits_x = digits_told (last_part count text) rest (bytes_drop (held_at + count) content r.bytes) s₅.front in
        record {
          framed = λ figures_c figures_k.
              record {
                colon = plain_is (get_or text 0 0) colon_mark (omega arith) (ap (λ (l : List ℕ). get_or l 0 0) both_texts);
                count_high = ap (λ (l : List ℕ). get_or l 0 0) (sym count_at ∙ count_same figures_c);
                count_low = ap (λ (l : List ℕ). get_or l 1 0) (sym count_at ∙ count_same figures_c);
                kind_high = ap (λ (l : List ℕ). get_or l 0 0) (sym kind_at ∙ kind_same figures_k);
                kind_low = ap (λ (l : List ℕ). get_or l 1 0) (sym kind_at ∙ kind_same figures_k);
                feed =
                    let at : length text - 1 ≡ last = omega (arith, many) in
                    rw at (plain_is (get_or text last 0) line_feed (omega arith) (ap (λ (l : List ℕ). get_or l 0 0) s₅.back));
              };
          address = digits_a.all;
          data_digits = digits_d.all;
          last_digits = digits_x.all;
          sum = rw (digits_a.stand, digits_d.stand, digits_x.stand, ← content_parts) r.sum;
        }
