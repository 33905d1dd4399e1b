-- Digits in either case are the digits of bytes: there and back.
use Rattle.std.proofs.Common.{◌≡◌, ℕ, zero, suc, ◌+◌, ◌*◌, ◌/◌, ◌%◌, ◌^◌, ◌<◌, ◌≤◌, Bool, true, false, cond, eqb, ltb, List, [], ◌∷◌, map, length, get_or, drop, sym, refl, ap, ◌∙◌, ap₂, arith, ltb-true, lt-ltb, eqb-true}
use lib.ListN.{get_or-eq_default}
use Rattle.base.specs.Cases.{below_or_not}
use Rattle.base.specs.Every.{Every}
use Rattle.base.specs.Tests.{and_left, and_right}
use Rattle.base.specs.Walk.{first_from, first, first_all}
use Rattle.layout.specs.Bytes.{byte_bits, AreBytes, bytes_cons}
use Rattle.intel_hex.specs.Records.{digit, digit_bits, byte_digits, digits_of}
use Rattle.intel_hex.specs.Contents.{digits}
use Rattle.intel_hex.specs.Reading.{place_in}
use Rattle.intel_hex.specs.Contents.{value_of, paired, digit_read}
use Rattle.intel_hex.specs.Import.{small_digits, capital}
use Rattle.intel_hex.specs.Promises.{meant, is_digit, all_digits, last_digit}

-- ---- one

-- what stands at the place of a number in a list is that number
place_found : (xs : List ℕ) (d : ℕ) → place_in xs d < length xs → get_or xs (place_in xs d) 0 ≡ d
unfolding place_in
place_found [] d h = absurd (omega arith)
place_found (x ∷ xs) d h = go (place_found xs d) (eqb d x) refl h
  where
    go : (place_in xs d < length xs → get_or xs (place_in xs d) 0 ≡ d) → (t : Bool) → eqb d x ≡ t → cond t 0 (suc (place_in xs d)) < suc (length xs) → get_or (x ∷ xs) (cond t 0 (suc (place_in xs d))) 0 ≡ d
    go rest true e g = sym (eqb-true d x e)
    go rest false e g = rest (omega (arith, g))

value_digit : (d : ℕ) → value_of d < 2 ^ digit_bits → digit (value_of d) ≡ d
unfolding value_of digit
value_digit d h = place_found digits d h

-- a capital digit is its own capital
kept_digit : ℕ → Bool
kept_digit n = eqb (capital (digit n)) (digit n)

all_kept : 2 ^ digit_bits ≤ first kept_digit (2 ^ digit_bits)
unfolding kept_digit capital digit place_in first_from
all_kept = omega arith

pub capital_digit : (n : ℕ) → n < 2 ^ digit_bits → capital (digit n) ≡ digit n
unfolding kept_digit
capital_digit n h = eqb-true (capital (digit n)) (digit n) (first_all kept_digit (2 ^ digit_bits) all_kept n h)

-- what has a capital before the letters is that capital itself
abbrev pub capital_a : ℕ
capital_a = 65

-- by its place among the small digits: those of figures are the same in either case
same_figure : ℕ → Bool
same_figure n = cond (ltb (digit n) capital_a) (eqb (get_or small_digits n 0) (digit n)) true

all_figures : 2 ^ digit_bits ≤ first same_figure (2 ^ digit_bits)
unfolding same_figure digit first_from
all_figures = omega arith

within_any : (l : List ℕ) (n x y : ℕ) → n < length l → get_or l n x ≡ get_or l n y
within_any [] n x y h = absurd (omega arith)
within_any (z ∷ l) zero x y h = refl
within_any (z ∷ l) (suc n) x y h = within_any l n x y (omega arith)

pub plain_is : (c d : ℕ) → d < capital_a → capital c ≡ d → c ≡ d
unfolding capital digit same_figure
plain_is c d before e =
    let at = place_in small_digits c in
    below_or_not at (2 ^ digit_bits)
    (λ h. let is : digit at ≡ d = within_any digits at 0 c h ∙ e in
    let told = first_all same_figure (2 ^ digit_bits) all_figures at h in
    sym (place_found small_digits c h) ∙ eqb-true (get_or small_digits at 0) (digit at) (rw (lt-ltb (digit at) capital_a (omega (arith, is, before))) at told) ∙ is)
    (λ h. sym (get_or-eq_default digits c h) ∙ e)

pub plain_all : (cs ds : List ℕ) → Every (λ d. d < capital_a) ds → map capital cs ≡ ds → cs ≡ ds
plain_all [] [] before e = refl
plain_all [] (d ∷ ds) before e = absurd (omega (arith, ap length e))
plain_all (c ∷ cs) [] before e = absurd (omega (arith, ap length e))
plain_all (c ∷ cs) (d ∷ ds) before e =
    ap₂ ◌∷◌ (plain_is c d before.0 (ap (λ (l : List ℕ). get_or l 0 0) e)) (plain_all cs ds before.1 (ap (λ (l : List ℕ). drop 1 l) e))

-- ---- several

-- what is read at a place of a list that is mapped
pub get_d_mapped : (f : ℕ → ℕ) (l : List ℕ) (n : ℕ) → n < length l → get_or (map f l) n 0 ≡ f (get_or l n 0)
get_d_mapped f [] n h = absurd (omega arith)
get_d_mapped f (x ∷ xs) zero h = refl
get_d_mapped f (x ∷ xs) (suc n) h = get_d_mapped f xs n (omega arith)

-- two digits of a byte
module _ (v w : ℕ) (high : v < 2 ^ digit_bits) (low : w < 2 ^ digit_bits) where
  pub high_is : (v * 2 ^ digit_bits + w) / 2 ^ digit_bits ≡ v
  high_is = omega (arith, high, low)

  pub low_is : (v * 2 ^ digit_bits + w) % 2 ^ digit_bits ≡ w
  low_is = omega (arith, high, low)

first_digit : (c : ℕ) (cs : List ℕ) → all_digits (c ∷ cs) ≡ true → meant c < 2 ^ digit_bits
unfolding all_digits
first_digit c cs h = ltb-true (meant c) (2 ^ digit_bits) (and_left (is_digit c) (all_digits cs) h)

other_digits : (c : ℕ) (cs : List ℕ) → all_digits (c ∷ cs) ≡ true → all_digits cs ≡ true
unfolding all_digits
other_digits c cs h = and_right (is_digit c) (all_digits cs) h

-- characters that are digits, with their case folded, are the digits of the bytes that they stand for
pub digits_back : (cs : List ℕ) (n : ℕ) → length cs ≡ byte_digits * n → all_digits cs ≡ true → map capital cs ≡ digits_of (paired (map meant cs))
unfolding digits_of paired
digits_back [] n e h = refl
digits_back (c ∷ []) n e h = absurd (omega arith)
digits_back (c ∷ d ∷ cs) zero e h = absurd (omega arith)
digits_back (c ∷ d ∷ cs) (suc n) e h =
    let v = first_digit c (d ∷ cs) h in
    let w = first_digit d cs (other_digits c (d ∷ cs) h) in
    rw (high_is (meant c) (meant d) v w, low_is (meant c) (meant d) v w, value_digit (capital c) v, value_digit (capital d) w)
    (ap (λ (l : List ℕ). capital c ∷ capital d ∷ l) (digits_back cs n (omega arith) (other_digits d cs (other_digits c (d ∷ cs) h))))

-- these are bytes
pub paired_bytes : (cs : List ℕ) → all_digits cs ≡ true → AreBytes (paired (map meant cs))
unfolding paired
paired_bytes [] h = λ i. omega arith
paired_bytes (c ∷ []) h = λ i. omega arith
paired_bytes (c ∷ d ∷ cs) h =
    let v = first_digit c (d ∷ cs) h in
    let w = first_digit d cs (other_digits c (d ∷ cs) h) in
    bytes_cons (meant c * 2 ^ digit_bits + meant d) (paired (map meant cs)) (omega (arith, v, w))
    (paired_bytes cs (other_digits d cs (other_digits c (d ∷ cs) h)))

-- and characters that are so the digits of bytes are digits, and stand for these bytes
pub record Digits (cs bs : List ℕ) : Type 0 where
  pub all : all_digits cs ≡ true
  pub stand : paired (map meant cs) ≡ bs

pub digits_told : (cs bs : List ℕ) → AreBytes bs → map capital cs ≡ digits_of bs → Digits cs bs
unfolding digits_of paired all_digits
digits_told [] [] fine e = record { all = refl; stand = refl }
digits_told [] (b ∷ bs) fine e = absurd (omega (arith, ap length e))
digits_told (c ∷ []) [] fine e = absurd (omega (arith, ap length e))
digits_told (c ∷ []) (b ∷ bs) fine e = absurd (omega (arith, ap length e))
digits_told (c ∷ d ∷ cs) [] fine e = absurd (omega (arith, ap length e))
digits_told (c ∷ d ∷ cs) (b ∷ bs) fine e =
    let byte : b < 2 ^ byte_bits = fine 0 in
    let high : b / 2 ^ digit_bits < 2 ^ digit_bits = omega arith in
    let low : b % 2 ^ digit_bits < 2 ^ digit_bits = omega arith in
    let v : meant c ≡ b / 2 ^ digit_bits = ap (λ (l : List ℕ). value_of (get_or l 0 0)) e ∙ digit_read (b / 2 ^ digit_bits) high in
    let w : meant d ≡ b % 2 ^ digit_bits = ap (λ (l : List ℕ). value_of (get_or l 1 0)) e ∙ digit_read (b % 2 ^ digit_bits) low in
    let rest = digits_told cs bs (λ i. fine (suc i)) (ap (λ (l : List ℕ). drop 2 l) e) in
    let pair : b / 2 ^ digit_bits * 2 ^ digit_bits + b % 2 ^ digit_bits ≡ b = omega arith in
    record {
      all = rw (v, w, lt-ltb (b / 2 ^ digit_bits) (2 ^ digit_bits) high, lt-ltb (b % 2 ^ digit_bits) (2 ^ digit_bits) low) rest.all;
      stand = rw (v, w, pair) (ap (λ (l : List ℕ). b ∷ l) rest.stand);
    }

-- values of digits are their own last digits
pub last_digits : (cs : List ℕ) → all_digits cs ≡ true → map last_digit (map meant cs) ≡ map meant cs
last_digits [] h = refl
last_digits (c ∷ cs) h =
    let v = first_digit c cs h in
    let same : meant c % 2 ^ digit_bits ≡ meant c = omega (arith, v) in
    rw same (ap (λ (l : List ℕ). meant c ∷ l) (last_digits cs (other_digits c cs h)))

-- the digits of bytes are their own capitals
pub capital_digits : (bs : List ℕ) → AreBytes bs → map capital (digits_of bs) ≡ digits_of bs
unfolding digits_of
capital_digits [] fine = refl
capital_digits (b ∷ bs) fine =
    let byte : b < 2 ^ byte_bits = fine 0 in
    rw (capital_digit (b / 2 ^ digit_bits) (omega arith), capital_digit (b % 2 ^ digit_bits) (omega arith))
    (ap (λ (l : List ℕ). digit (b / 2 ^ digit_bits) ∷ digit (b % 2 ^ digit_bits) ∷ l) (capital_digits bs (λ i. fine (suc i))))
