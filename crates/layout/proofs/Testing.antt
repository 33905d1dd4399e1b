-- The tests on a packed word as it is: a comparison of whole words is one of their topmost fields.
use Rattle.std.proofs.Common.{◌≡◌, ℕ, ◌+◌, ◌-◌, ◌*◌, ◌/◌, ◌%◌, ◌^◌, ◌<◌, ◌≤◌, Bool, true, false, ltb, leb, sym, refl, ap, ◌∙◌, ap₂, arith, le-ltb, lt-ltb, le-leb, leb-false, leb-true}
use mathlib.Core.Bool.{false≢true}
use borrow.Author.Tests.{lt-leb}
use Rattle.base.specs.Tests.{held, hold_together}
use Rattle.layout.specs.declared.Entry.{Entry}
use Rattle.layout.specs.Limits.{word_bits, epoch_bits, address_bits, board_version, most_ahead}
use Rattle.layout.specs.Fields.{width, unpack, decode}
use Rattle.layout.specs.Words.{OwnLines, decode_shape, decode_entry, formed}
use Rattle.layout.specs.Laws.{entry_laws}

-- tests that hold together and fail together
same : (t u : Bool) → (t ≡ true → u ≡ true) → (t ≡ false → u ≡ false) → t ≡ u
same true u holds fails = sym (holds refl)
same false u holds fails = sym (fails refl)

-- a word is at most the last that has the line before in its address
pub address_below : (w lines : ℕ) → w < 2 ^ word_bits → 1 ≤ lines
    → leb w ((lines - 1) * 2 ^ (word_bits - address_bits) + (2 ^ (word_bits - address_bits) - 1)) ≡ ltb (decode_entry w).address lines
unfolding decode unpack width
address_below w lines h some =
    same _ _
    (λ e. let l = leb-true w _ e in lt-ltb _ lines (omega arith))
    (λ e. let l = leb-false w _ e in le-ltb _ lines (omega arith))

-- an entry's first word with its ValidTill shifted to the top, below which its span stands
abbrev till_top : ℕ → ℕ
till_top w = w * 2 ^ address_bits % 2 ^ word_bits

-- what one more in it then adds to the word
abbrev top_till : ℕ
top_till = 2 ^ (word_bits - epoch_bits)

till_first : (w : ℕ) → till_top w ≡ (decode_entry w).till * top_till + (decode_entry w).span * 2 ^ address_bits
unfolding decode unpack width
till_first w = omega arith

first_at_most : (till span epoch : ℕ) → span < 2 ^ 8
    → leb (till * top_till + span * 2 ^ address_bits) (epoch * top_till + (top_till - 1)) ≡ leb till epoch
first_at_most till span epoch h =
    same _ _
    (λ e. let l = leb-true _ (epoch * top_till + (top_till - 1)) e in le-leb till epoch (omega arith))
    (λ e. let l = leb-false _ (epoch * top_till + (top_till - 1)) e in lt-leb till epoch (omega arith))

pub till_at_most : (w epoch : ℕ) → leb (till_top w) (epoch * top_till + (top_till - 1)) ≡ leb (decode_entry w).till epoch
till_at_most w epoch =
    let e = decode_entry w in
    ap (λ (x : ℕ). leb x (epoch * top_till + (top_till - 1))) (till_first w)
    ∙ first_at_most e.till e.span epoch (entry_laws.decoded_fits w).span

-- ---- the span, which is the word's last field: less is the word less one, modulo 2 ^ 64

span_field : (w : ℕ) → w % 2 ^ 8 ≡ (decode_entry w).span
unfolding decode unpack width
span_field w = omega arith

-- the span at ValidTill's place
span_first : (till span : ℕ) → span < 2 ^ 8 → leb (span * top_till) (till * top_till + span * 2 ^ address_bits) ≡ leb span till
span_first till span h =
    same _ _
    (λ e. let l = leb-true (span * top_till) _ e in le-leb span till (omega arith))
    (λ e. let l = leb-false (span * top_till) _ e in lt-leb span till (omega arith))

-- what a wrapping subtraction leaves
abbrev pub wrapped : (a b : ℕ) → ℕ
wrapped a b = (a + (2 ^ word_bits - b)) % 2 ^ word_bits

module _ (w : ℕ) (fits : w < 2 ^ word_bits) where
  abbrev less : ℕ
  less = wrapped w 1

  span_last : (decode_entry w).span ≡ (less + 1) % 2 ^ 8
  span_last = omega (arith, span_field w, fits)

  pub unformed : most_ahead ≤ less % 2 ^ 8 → ltb (less % 2 ^ 8) most_ahead ≡ formed (decode_entry w)
  unfolding formed
  unformed far = le-ltb (less % 2 ^ 8) most_ahead far ∙ hold_together false _ (λ t. absurd (false≢true t)) (λ t.
      let some : 1 ≤ (decode_entry w).span = search held depth 12 in
      let most : (decode_entry w).span ≤ most_ahead = search held depth 12 in
      absurd (omega (arith, span_last)))

  pub formed_within : less % 2 ^ 8 < most_ahead → leb (w % 2 ^ 8 * top_till) (till_top w) ≡ formed (decode_entry w)
  unfolding formed
  formed_within near =
      let e = decode_entry w in
      let some : 1 ≤ e.span = omega (arith, span_last) in
      let most : e.span ≤ most_ahead = omega (arith, span_last) in
      ap₂ leb (ap (λ (s : ℕ). s * top_till) (span_field w)) (till_first w)
      ∙ rw (le-leb 1 e.span some, le-leb e.span most_ahead most) (span_first e.till e.span (entry_laws.decoded_fits w).span)

-- ---- the same by the fields

module _ (e : Entry) (fits : e.span < 2 ^ word_bits) where
  pub span_far : most_ahead ≤ wrapped e.span 1 → ltb (wrapped e.span 1) most_ahead ≡ formed e
  unfolding formed
  span_far far = le-ltb (wrapped e.span 1) most_ahead far ∙ hold_together false _ (λ t. absurd (false≢true t)) (λ t.
      let some : 1 ≤ e.span = search held depth 12 in
      let most : e.span ≤ most_ahead = search held depth 12 in
      absurd (omega arith))

  pub span_near : wrapped e.span 1 < most_ahead → leb e.span e.till ≡ formed e
  unfolding formed
  span_near near = sym (rw (le-leb 1 e.span (omega arith), le-leb e.span most_ahead (omega arith)))

-- ---- the lines of a board of this format: those of a shape word without its last field, less the version, modulo 2 ^ 64

pub own_lines : (w : ℕ) → w < 2 ^ word_bits → OwnLines (decode_shape w) (wrapped (w / 2 ^ 20) (board_version * 2 ^ 20))
unfolding decode unpack width
own_lines w h = record { own = λ v. omega arith; other = λ n. omega arith }
