-- The filter's functions, one law for each way out.
use Prim.Native.Nat.{ℕ, ◌+◌, ◌-◌, ◌*◌, ◌/◌, ◌%◌, ◌^◌, ◌<◌, ◌≤◌}
use mathlib.Core.Path.{◌≡◌, refl, ap, ap₂, ◌∙◌}
use mathlib.Core.Bool.{Bool, true, false, not, ◌&&◌, and-true, and-false}
use mathlib.Core.List.{List}
use mir.Syntax.{w64}
use mir.Val.{Fits}
use native.Mathlib.Nat.{mod-lt}
use native.Mathlib.Numerals.{add-one}
use native.Mathlib.Omega.{arith}
use borrow.Author.Tests.{not-true, not-false}
use lib.Bits.{bit_and, bit_or}
use lib.Count.{ones, ones-le}
use lib.Dec.{ltb}
use lib.ListN.{length, get_or, set, take, drop, length-drop}
use lib.Seq.{get_or-drop}
use lib.Pow.{pow_pos}
use Rattle.layout.specs.Limits.{word_bits}
use Rattle.base.specs.Parts.{rest_lent}
use Rattle.layout.specs.Memory.{filter_at, filter_words, buffer_words}
use Rattle.undo.specs.Promises.{FirstBit, SecondBit, starts_with_one, ReadsBit, CountsOnes}
use Rattle.undo.specs.Digits.{both_start, shifted_start, shifted_first}
use Rattle.undo.specs.Filter.{is_set, with_bit, marking, marks, hits, ones_of}

-- ---- a bit is read, and set

module _ (buffer : List ℕ) (i : ℕ) where
  pub bit_read : ReadsBit buffer i (get_or buffer (filter_at + i / word_bits) 0 * 2 ^ (i % word_bits) % 2 ^ word_bits)
  unfolding is_set
  bit_read = record {
    is = shifted_start (get_or buffer (filter_at + i / word_bits) 0) (i % word_bits) (mod-lt i (omega arith));
    fits = mod-lt (get_or buffer (filter_at + i / word_bits) 0 * 2 ^ (i % word_bits)) (pow_pos word_bits);
  }

  pub bit_set : set buffer (filter_at + i / word_bits) (bit_or (get_or buffer (filter_at + i / word_bits) 0) (2 ^ (word_bits - 1) / 2 ^ (i % word_bits)))
      ≡ with_bit buffer i
  unfolding with_bit
  bit_set = rw (shifted_first (i % word_bits) (mod-lt i (omega arith)))

-- ---- both bits of an address

pub both_read : (buffer : List ℕ) (a first second x y : ℕ) → FirstBit a first → SecondBit a second → ReadsBit buffer first x → ReadsBit buffer second y
    → starts_with_one (bit_and x y) ≡ marks buffer a
unfolding marks
both_read buffer a first second x y f s rx ry =
    both_start x y rx.fits ry.fits ∙ ap₂ ◌&&◌ rx.is ry.is ∙ rw (f.is, s.is)

pub both_set : (buffer buffer' buffer'' : List ℕ) (a first second : ℕ) → FirstBit a first → SecondBit a second → buffer' ≡ with_bit buffer first
    → buffer'' ≡ with_bit buffer' second → buffer'' ≡ marking buffer a
unfolding marking
both_set buffer buffer' buffer'' a first second f s x y = rw (← f.is, ← s.is, ← x) y

module _ (buffer : List ℕ) (count a : ℕ) (t : Bool) (marked : t ≡ marks buffer a) where
  pub hit_unmarked : not t ≡ true → false ≡ hits buffer count a
  unfolding hits
  hit_unmarked x = rw (← marked, not-true t x, and-false)

  pub hit_marked : not t ≡ false → ltb 0 count ≡ hits buffer count a
  unfolding hits
  hit_marked x = rw (← marked, not-false t x, and-true)

-- ---- the number of bits that are set

pub word_counted : (word : ℕ) → word < 2 ^ word_bits → CountsOnes word (ones word)
word_counted word below = record { is = refl; most = ones-le word_bits word below }

pub word_count_fits : (word : ℕ) → word < 2 ^ word_bits → Fits w64 (ones word)
word_count_fits word below = let few = ones-le word_bits word below in record { fits = omega arith }

pub record Counting (buffer : List ℕ) (count k : ℕ) : Type 0 where
  pub within : k ≤ filter_words
  pub most : count ≤ word_bits * k
  pub is : count ≡ ones_of buffer k

pub count_start : (buffer : List ℕ) → Counting buffer 0 0
unfolding ones_of
count_start buffer = record { within = omega arith; most = omega arith; is = refl }

-- the filter's words as they are lent
abbrev lent : List ℕ → List ℕ
lent buffer = take (length buffer - filter_at) (drop filter_at buffer)

module _ (buffer : List ℕ) (count k : ℕ) (so_far : Counting buffer count k) (words : length buffer ≡ buffer_words) where
  lent_length : length (lent buffer) ≡ filter_words
  lent_length = rw (rest_lent filter_at buffer, length-drop) (omega arith)

  pub count_next : (n : ℕ) → k < length (lent buffer) → CountsOnes (get_or (lent buffer) k 0) n → Counting buffer (count + n) (k + 1)
  unfolding ones_of
  count_next n h c =
      let read : get_or (lent buffer) k 0 ≡ get_or buffer (filter_at + k) 0 =
      ap (λ (xs : List ℕ). get_or xs k 0) (rest_lent filter_at buffer) ∙ get_or-drop filter_at buffer k 0 in
      record {
        within = omega (arith, lent_length);
        most = omega (arith, so_far.most, c.most);
        is = rw (add-one, ← so_far.is) (ap (λ (m : ℕ). count + m) (c.is ∙ ap ones read));
      }

  pub count_end : length (lent buffer) ≤ k → count ≡ ones_of buffer filter_words
  count_end h = let e : k ≡ filter_words = omega (arith, so_far.within, lent_length) in rw e at so_far.is
