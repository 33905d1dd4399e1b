-- Digits, and bytes as digits.
use Rattle.std.proofs.Common.{◌≡◌, ℕ, suc, ◌+◌, ◌*◌, ◌/◌, ◌%◌, ◌^◌, ◌<◌, ◌≤◌, Bool, eqb, List, [], ◌∷◌, ◌++◌, length, get_or, take, set, sym, refl, ap, ◌∙◌, add-one, arith, length-take-le, take_all, take-suc, le-ltb, lt-ltb, eqb-true}
use lib.Seq.{sets, length-sets}
use Rattle.base.specs.Walk.{first_from, first, first_all}
use Rattle.layout.specs.Bytes.{byte_bits}
use Rattle.intel_hex.specs.Records.{digit, digit_bits, byte_digits, digits_of, sum_of}
use Rattle.intel_hex.specs.Laws.{digits_many}
use Rattle.intel_hex.specs.Promises.{figures, gap, gap_before, Gap, PutsBytes}

-- ── a digit ──

pub gap_figure : (n : ℕ) → n < figures → Gap n 0
unfolding gap_before
gap_figure n h = record { is = rw (lt-ltb n figures h); most = omega arith }

pub gap_letter : (n : ℕ) → figures ≤ n → Gap n gap
unfolding gap_before
gap_letter n h = record { is = rw (le-ltb n figures h); most = omega arith }

abbrev zero_digit : ℕ
zero_digit = 48

-- by one test of all sixteen
unfoldable placed : ℕ → Bool
placed n = eqb (zero_digit + n + gap_before n) (digit n)

all_placed : 2 ^ digit_bits ≤ first placed (2 ^ digit_bits)
unfolding placed first_from gap_before digit
all_placed = omega arith

pub digit_is : (n r : ℕ) → n < 2 ^ digit_bits → Gap n r → zero_digit + n + r ≡ digit n
unfolding placed
digit_is n r h g = rw g.is (eqb-true (zero_digit + n + gap_before n) (digit n) (first_all placed (2 ^ digit_bits) all_placed n h))

-- ── a byte ──

pub byte_put : (text : List ℕ) (at b high low : ℕ) → high ≡ digit (b / 2 ^ digit_bits) → low ≡ digit (b % 2 ^ digit_bits)
    → set (set text at high) (at + 1) low ≡ sets text at (digits_of (b ∷ []))
unfolding digits_of
byte_put text at b high low h l = rw (add-one, h, l)

-- ── several bytes ──

-- two pieces, one behind the other, are one
pub sets_append : (text : List ℕ) (at : ℕ) (p q : List ℕ) → sets (sets text at p) (at + length p) q ≡ sets text at (p ++ q)
sets_append text at [] q = let z : at + 0 ≡ at = omega arith in rw z
sets_append text at (x ∷ p) q =
    let s : at + suc (length p) ≡ suc at + length p = omega arith in rw s (sets_append (set text at x) (suc at) p q)

pub digits_append : (cs bs : List ℕ) → digits_of (cs ++ bs) ≡ digits_of cs ++ digits_of bs
unfolding digits_of
digits_append [] bs = refl
digits_append (c ∷ cs) bs = rw (digits_append cs bs)

pub sum_append : (cs bs : List ℕ) → sum_of (cs ++ bs) ≡ sum_of cs + sum_of bs
unfolding sum_of
sum_append [] bs = omega arith
sum_append (c ∷ cs) bs = rw (sum_append cs bs) (omega arith)

-- the first i bytes are put, and summed up
pub record Put (bs text : List ℕ) (at : ℕ) (text' : List ℕ) (sum i : ℕ) : Type 0 where
  pub within : i ≤ length bs
  pub same : length text' ≡ length text
  pub left : text' ≡ sets text at (digits_of (take i bs))
  pub total : sum ≡ sum_of (take i bs) % 2 ^ byte_bits

pub put_none : (bs text : List ℕ) (at : ℕ) → Put bs text at text 0 0
unfolding digits_of sum_of
put_none bs text at = record { within = omega arith; same = refl; left = refl; total = refl }

pub put_next : {bs text text' : List ℕ} {at sum i : ℕ} → Put bs text at text' sum i → i < length bs → (text'' : List ℕ) (more : ℕ)
    → text'' ≡ sets text' (at + byte_digits * i) (digits_of (get_or bs i 0 ∷ [])) → more ≡ (sum + get_or bs i 0) % 2 ^ byte_bits
    → Put bs text at text'' more (i + 1)
unfolding sum_of
put_next {bs} {text} {text'} {at} {sum} {i} p h text'' more l m =
    let front = take i bs in
    let b = get_or bs i 0 ∷ [] in
    let many : byte_digits * i ≡ length (digits_of front) = omega (arith, digits_many front, length-take-le i bs p.within) in
    let longer : take (i + 1) bs ≡ front ++ b = rw add-one (take-suc bs i 0 h) in
    record {
      within = omega (arith, h);
      same = ap length l ∙ length-sets text' (at + byte_digits * i) (digits_of b) ∙ p.same;
      left = l
          ∙ ap (λ (t : List ℕ). sets t (at + byte_digits * i) (digits_of b)) p.left
          ∙ ap (λ (k : ℕ). sets (sets text at (digits_of front)) (at + k) (digits_of b)) many
          ∙ sets_append text at (digits_of front) (digits_of b)
          ∙ ap (λ (d : List ℕ). sets text at d) (sym (digits_append front b) ∙ ap digits_of (sym longer));
      total = rw (longer, sum_append) (omega (arith, m, p.total));
    }

pub put_all : {bs text text' : List ℕ} {at sum i : ℕ} → Put bs text at text' sum i → length bs ≤ i → PutsBytes bs text at text' sum
put_all {bs} {text} {text'} {at} {sum} {i} p h =
    let all : take i bs ≡ bs = take_all i bs h in record { left = rw (← all) p.left; total = rw (← all) p.total }
