-- Characters read as digits, and digits as bytes.
use Rattle.std.proofs.Common.{◌≡◌, ℕ, zero, suc, ◌+◌, ◌-◌, ◌*◌, ◌%◌, ◌^◌, ◌<◌, ◌≤◌, Bool, true, false, cond, not, ◌&&◌, eqb, ltb, List, [], ◌∷◌, ◌++◌, map, length, get_or, take, drop, set, sym, refl, ap, ◌∙◌, add-one, arith, length-set, take_all, take-suc, take-suc-set, ltb-true, le-ltb, lt-ltb, eqb-true}
use mathlib.Core.Bool.{false≢true}
use mathlib.Core.List.{map-append}
use borrow.Author.Tests.{not-true, not-false}
use lib.Bits.{bit_or}
use lib.ListN.{length-map, get_or-map}
use Rattle.base.specs.Copied.{Copied, copy_start, copy_next, copy_end}
use Rattle.base.specs.Every.{every_take, every_at}
use Rattle.base.specs.Tests.{and_left, and_right}
use Rattle.base.specs.Walk.{first_from, first, first_all}
use Rattle.layout.specs.Bytes.{byte_bits}
use Rattle.std.specs.Prelude.{Option, Some, None, is_some, unwrap_or, IfSome}
use Rattle.intel_hex.specs.Records.{digit_bits, byte_digits, sum_of}
use Rattle.intel_hex.specs.Reading.{place_in}
use Rattle.intel_hex.specs.Contents.{value_of, paired}
use Rattle.intel_hex.specs.Import.{capital}
use Rattle.intel_hex.specs.Promises.{figures, meant, is_digit, all_digits, last_digit, Means, ReadsValues, AreDigits, ReadsBytes}
use Rattle.intel_hex.proofs.ByteDigits.{sum_append}

-- ── a character ──

-- how many letters are digits, and the bit that small ones have more
abbrev letters : ℕ
letters = 6

abbrev small : ℕ
small = 32

abbrev characters : ℕ
characters = 2 ^ byte_bits

-- how far a character stands behind another, around the end
abbrev behind : (other c : ℕ) → ℕ
behind other c = (c + (characters - other)) % characters

abbrev zero_figure : ℕ
zero_figure = 48

abbrev small_a : ℕ
small_a = 97

behind_is : (other c r : ℕ) → other ≤ characters → r < characters → (r + other) % characters ≡ c → r ≡ behind other c
behind_is other c r o h e = omega (arith, o, h, e)

-- by one test of all characters each
folds : ℕ → Bool
folds c = eqb (capital c) (cond (ltb (behind small_a c) letters) (c - small) c)

all_fold : characters ≤ first folds characters
unfolding folds capital place_in first_from
all_fold = omega arith

reads : ℕ → Bool
reads c =
    let figure = behind zero_figure c in
    let letter = behind small_a (bit_or c small) in
    cond (ltb figure figures) (eqb (meant c) figure)
    (cond (ltb letter letters) (eqb (meant c) (figures + letter)) (not (is_digit c)))

all_read : characters ≤ first reads characters
unfolding reads capital value_of place_in first_from
all_read = omega arith

module _ (c : ℕ) (byte : c < characters) where
  fold_is : capital c ≡ cond (ltb (behind small_a c) letters) (c - small) c
  unfolding folds
  fold_is = eqb-true (capital c) _ (first_all folds characters all_fold c byte)

  -- what a case fold makes of a small letter's digit, and of every other character
  pub folded : (r : ℕ) → r < characters → (r + small_a) % characters ≡ c → r < letters → c - small ≡ capital c
  folded r h e few = let is = behind_is small_a c r (omega arith) h e in rw (fold_is, ← is, lt-ltb r letters few)

  pub kept : (r : ℕ) → r < characters → (r + small_a) % characters ≡ c → letters ≤ r → c ≡ capital c
  kept r h e many = let is = behind_is small_a c r (omega arith) h e in rw (fold_is, ← is, le-ltb r letters many)

  read_is : reads c ≡ true
  read_is = first_all reads characters all_read c byte

  abbrev figure : ℕ
  figure = behind zero_figure c

  abbrev letter : ℕ
  letter = behind small_a (bit_or c small)

  pub figure_read : figure < figures → Means c (Some figure)
  unfolding reads
  figure_read few =
      let is : meant c ≡ figure = eqb-true (meant c) figure (rw (lt-ltb figure figures few) at read_is) in
      record { digit = sym (lt-ltb (meant c) (2 ^ digit_bits) (omega (arith, is, few))); is = sym is }

  module _ (many : figures ≤ figure) where
    told : cond (ltb letter letters) (eqb (meant c) (figures + letter)) (not (is_digit c)) ≡ true
    unfolding reads
    told = rw (le-ltb figure figures many) at read_is

    pub letter_read : letter < letters → Means c (Some (letter + figures))
    letter_read few =
        let is : meant c ≡ figures + letter = eqb-true (meant c) (figures + letter) (rw (lt-ltb letter letters few) at told) in
        record { digit = sym (lt-ltb (meant c) (2 ^ digit_bits) (omega (arith, is, few))); is = omega (arith, is) }

    pub none_read : letters ≤ letter → Means c None
    none_read past = record { digit = sym (not-true (is_digit c) (rw (le-ltb letter letters past) at told)); is = tt }

-- ── several ──

-- the first i characters are read
pub record Valued (characters into : List ℕ) (all : Bool) (i : ℕ) : Type 0 where
  pub within : i ≤ length characters
  pub same : length into ≡ length characters
  pub told : all ≡ all_digits (take i characters)
  pub values : all ≡ true → take i into ≡ map meant (take i characters)

and_end : (t : Bool) → t && true ≡ t
and_end true = refl
and_end false = refl

and_assoc : (t u v : Bool) → t && (u && v) ≡ (t && u) && v
and_assoc true u v = refl
and_assoc false u v = refl

pub all_append : (cs ds : List ℕ) → all_digits (cs ++ ds) ≡ all_digits cs && all_digits ds
unfolding all_digits
all_append [] ds = refl
all_append (c ∷ cs) ds = rw (all_append cs ds) (and_assoc (is_digit c) (all_digits cs) (all_digits ds))

value_of_some : (r : Option ℕ) (v : ℕ) → IfSome r (λ w. w ≡ v) → is_some r ≡ true → unwrap_or r 0 ≡ v
value_of_some (Some w) v is some = is
value_of_some None v is some = absurd (false≢true some)

pub value_start : (characters into : List ℕ) → length into ≡ length characters → Valued characters into true 0
unfolding all_digits
value_start characters into h = record { within = omega arith; same = h; told = refl; values = λ a. refl }

module _ {characters into : List ℕ} {all : Bool} {i : ℕ} (s : Valued characters into all i) where
  pub value_next : i < length characters → (r : Option ℕ) → Means (get_or characters i 0) r → (v : ℕ) → v ≡ unwrap_or r 0
      → (t : Bool) → t ≡ is_some r → Valued characters (set into i v) (all && t) (i + 1)
  unfolding all_digits
  value_next h r m v is t some =
      let c = get_or characters i 0 in
      let front = take i characters in
      let longer : take (i + 1) characters ≡ front ++ (c ∷ []) = rw add-one (take-suc characters i 0 (omega (arith, h, s.same))) in
      let further : take (i + 1) (set into i v) ≡ take i into ++ (v ∷ []) = rw add-one (take-suc-set into i v (omega (arith, h, s.same))) in
      record {
        within = omega (arith, h, s.same);
        same = length-set into i v ∙ s.same;
        told = rw (some, longer, all_append front (c ∷ []), and_end, s.told, m.digit);
        values = λ a.
            let before = s.values (and_left all t a) in
            let now : v ≡ meant c = is ∙ value_of_some r (meant c) m.is (sym some ∙ and_right all t a) in
            rw (longer, further, map-append, before, now);
      }

  pub value_end : length characters ≤ i → ReadsValues characters into all
  value_end h =
      let whole : take i characters ≡ characters = take_all i characters h in
      let told : all ≡ all_digits characters = s.told ∙ ap all_digits whole in
      record {
        all = told;
        values = λ a. sym (take_all i into (omega (arith, h, s.same))) ∙ s.values (told ∙ a) ∙ ap (map meant) whole;
      }

-- ── bytes ──

-- byte i of numbers in pairs
pub paired_at : (vs : List ℕ) (n i : ℕ) → length vs ≡ byte_digits * n → i < n
    → get_or (paired vs) i 0 ≡ get_or vs (byte_digits * i) 0 * 2 ^ digit_bits + get_or vs (byte_digits * i + 1) 0
unfolding paired
paired_at [] n i e h = absurd (omega arith)
paired_at (v ∷ []) n i e h = absurd (omega arith)
paired_at (v ∷ w ∷ vs) zero i e h = absurd (omega arith)
paired_at (v ∷ w ∷ vs) (suc n) zero e h = refl
paired_at (v ∷ w ∷ vs) (suc n) (suc i) e h =
    let two : byte_digits * suc i ≡ suc (suc (byte_digits * i)) = omega arith in
    let three : byte_digits * suc i + 1 ≡ suc (suc (byte_digits * i + 1)) = omega arith in
    rw (three, two) (paired_at vs n i (omega arith) (omega arith))

pub paired_many : (vs : List ℕ) (n : ℕ) → length vs ≡ byte_digits * n → length (paired vs) ≡ n
unfolding paired
paired_many [] n e = omega arith
paired_many (v ∷ []) n e = absurd (omega arith)
paired_many (v ∷ w ∷ vs) zero e = absurd (omega arith)
paired_many (v ∷ w ∷ vs) (suc n) e = ap suc (paired_many vs n (omega arith))

-- the first i bytes are read, and summed up
pub record Summed (from before into : List ℕ) (sum i : ℕ) : Type 0 where
  pub copied : Copied from before into i
  pub total : sum ≡ sum_of (take i from) % 2 ^ byte_bits

pub sum_start : (from before : List ℕ) → Summed from before before 0 0
unfolding sum_of
sum_start from before = record { copied = copy_start from before; total = refl }

pub digit_at : (vs : List ℕ) (i : ℕ) → AreDigits vs → get_or vs i 0 < 2 ^ digit_bits
digit_at vs i digits = every_at (λ v. v < 2 ^ digit_bits) vs i 0 digits (omega arith)

whole : (v w : ℕ) → v < 2 ^ digit_bits → w < 2 ^ digit_bits → v * 2 ^ digit_bits + w ≡ v % 2 ^ digit_bits * 2 ^ digit_bits + w % 2 ^ digit_bits
whole v w h l = omega (arith, h, l)

-- what characters that are digits stand for, and a part of such values
pub meant_digits : (cs : List ℕ) → all_digits cs ≡ true → AreDigits (map meant cs)
unfolding all_digits
meant_digits [] all = tt
meant_digits (c ∷ cs) all =
    (ltb-true (meant c) (2 ^ digit_bits) (and_left (is_digit c) (all_digits cs) all), meant_digits cs (and_right (is_digit c) (all_digits cs) all))

every_drop : (n : ℕ) (vs : List ℕ) → AreDigits vs → AreDigits (drop n vs)
every_drop zero vs digits = digits
every_drop (suc n) [] digits = tt
every_drop (suc n) (v ∷ vs) digits = every_drop n vs digits.1

pub values_digits : (characters values : List ℕ) (t : Bool) → ReadsValues characters values t → not t ≡ false → AreDigits values
values_digits characters values t reads e =
    let all : all_digits characters ≡ true = sym reads.all ∙ not-false t e in
    rw (reads.values all) (meant_digits characters all)

pub front_digits : (characters values : List ℕ) (t : Bool) → ReadsValues characters values t → not t ≡ false → (n : ℕ) → AreDigits (take n values)
front_digits characters values t reads e n = every_take (λ v. v < 2 ^ digit_bits) n values (values_digits characters values t reads e)

pub part_digits : (characters values : List ℕ) (t : Bool) → ReadsValues characters values t → not t ≡ false → (at end : ℕ)
    → AreDigits (take (end - at) (drop at values))
part_digits characters values t reads e at end =
    every_take (λ v. v < 2 ^ digit_bits) (end - at) (drop at values) (every_drop at values (values_digits characters values t reads e))

module _ (values before : List ℕ) (many : length values ≡ byte_digits * length before) (digits : AreDigits values) where
  abbrev from : List ℕ
  from = paired (map last_digit values)

  from_many : length before ≡ length from
  from_many = sym (paired_many (map last_digit values) (length before) (length-map values last_digit ∙ many))

  module _ {into : List ℕ} {sum i : ℕ} (s : Summed from before into sum i) where
    pub sum_next : i < length before → (byte more : ℕ)
        → byte ≡ get_or values (byte_digits * i) 0 * 2 ^ digit_bits + get_or values (byte_digits * i + 1) 0
        → more ≡ (sum + byte) % 2 ^ byte_bits → Summed from before (set into i byte) more (i + 1)
    unfolding sum_of
    sum_next inside byte more b e =
        let high = digit_at values (byte_digits * i) digits in
        let low = digit_at values (byte_digits * i + 1) digits in
        let is : byte ≡ get_or from i 0 =
        b
        ∙ whole (get_or values (byte_digits * i) 0) (get_or values (byte_digits * i + 1) 0) high low
        ∙ sym (paired_at (map last_digit values) (length before) i (length-map values last_digit ∙ many) inside
        ∙ rw (get_or-map last_digit values (byte_digits * i) 0, get_or-map last_digit values (byte_digits * i + 1) 0)) in
        let below : i < length from = omega (arith, inside, from_many) in
        record {
          copied = rw is (copy_next from_many s.copied below);
          total = rw (add-one, take-suc from i 0 below, sum_append) (omega (arith, e, s.total, is));
        }

    pub sum_end : length before ≤ i → ReadsBytes values into sum
    sum_end h =
        let past : length from ≤ i = omega (arith, h, from_many) in
        let all : into ≡ from = copy_end from_many s.copied past in
        record { bytes = all; total = rw all (s.total ∙ rw (take_all i from past)) }
