-- The filter's laws: what a bit that is set does to every bit, and what the marking of an address does to the buffer.
use Prim.Native.Nat.{ℕ, ◌-◌, ◌/◌, ◌%◌, ◌<◌}
use Rattle.std.specs.Prelude.{◌≡◌, ◌≢◌, Bool, true, false, ◌||◌, List, length, get_or, set}
use Rattle.std.proofs.Math.Path.{refl, ap}
use Rattle.std.proofs.Common.{◌∙◌, arith, eqb-true, eq-eqb, ne_eqb, get_or-set_same}
use Rattle.std.proofs.Math.Bool.{or-true, or-false, or_assoc}
use Rattle.std.proofs.Math.Nat.{zero-div}
use Rattle.std.proofs.lemmas.Bool.{eqb-false}
use Rattle.std.specs.Int.Bits.{bit_or}
use Rattle.std.proofs.Math.Dec.{eqb}
use Rattle.std.proofs.Math.ListN.{length-set}
use Rattle.std.proofs.Math.Seq.{get_or-set_other}
use Rattle.layout.specs.Limits.{word_bits, filter_size}
use Rattle.layout.specs.Memory.{filter_at, buffer_words}
use Rattle.undo.specs.Filter.{first_bit, second_bit, is_bit_of, bit_place, bit_worth, is_set, with_bit, marking}
use Rattle.undo.specs.Digits.{digit, or_digit, power_digit}

pub first_below : (a : ℕ) → first_bit a < filter_size
unfolding first_bit
first_below a = omega arith

pub second_below : (a : ℕ) → second_bit a < filter_size
unfolding second_bit
second_below a = omega arith

-- ---- a bit that is set

module _ (buffer : List ℕ) where
  with_length : (j : ℕ) → length (with_bit buffer j) ≡ length buffer
  unfolding with_bit
  with_length j = simp length-set

  -- the words before the filter stay
  with_before : (i j : ℕ) → i < filter_at → get_or (with_bit buffer j) i 0 ≡ get_or buffer i 0
  unfolding with_bit
  with_before i j h = get_or-set_other buffer (bit_place j) i (bit_or (get_or buffer (bit_place j) 0) (bit_worth j)) 0 (λ e. omega arith)

  with_bit_holds : length buffer ≡ buffer_words → (i j : ℕ) → i < filter_size → j < filter_size → is_set (with_bit buffer j) i ≡ is_set buffer i || eqb i j
  unfolding is_set with_bit
  with_bit_holds words i j hi hj = go (eqb (i / word_bits) (j / word_bits)) refl
    where
      word : ℕ
      word = bit_or (get_or buffer (bit_place j) 0) (bit_worth j)

      low : ℕ → ℕ
      low n = word_bits - 1 - n % word_bits

      same : i / word_bits ≡ j / word_bits → (t : Bool) → eqb i j ≡ t → eqb (low j) (low i) ≡ t
      same e true h = let s : i ≡ j = eqb-true i j h in eq-eqb (low j) (low i) (rw s)
      same e false h = let n : i ≢ j = eqb-false i j h in ne_eqb (low j) (low i) (λ s. n (omega arith))

      apart : i / word_bits ≢ j / word_bits → eqb i j ≡ false
      apart n = ne_eqb i j (λ s. n (rw s))

      go : (t : Bool) → eqb (i / word_bits) (j / word_bits) ≡ t
          → digit (get_or (set buffer (bit_place j) word) (bit_place i) 0) (low i) ≡ digit (get_or buffer (bit_place i) 0) (low i) || eqb i j
      go true e =
          let s : i / word_bits ≡ j / word_bits = eqb-true (i / word_bits) (j / word_bits) e in
          rw (s, get_or-set_same buffer (bit_place j) word 0 (omega arith))
          (or_digit (get_or buffer (bit_place j) 0) (bit_worth j) (low i)
          ∙ ap (λ (t : Bool). digit (get_or buffer (bit_place j) 0) (low i) || t) (power_digit (low j) (low i) ∙ same s (eqb i j) refl))
      go false e =
          let n : i / word_bits ≢ j / word_bits = eqb-false (i / word_bits) (j / word_bits) e in
          rw (get_or-set_other buffer (bit_place j) (bit_place i) word 0 (λ h. n (omega arith)), apart n, or-false)

-- ---- the marking of an address

module _ (buffer : List ℕ) (a : ℕ) where
  pub marking_length : length (marking buffer a) ≡ length buffer
  unfolding marking
  marking_length = with_length (with_bit buffer (first_bit a)) (second_bit a) ∙ with_length buffer (first_bit a)

  pub marking_before : (i : ℕ) → i < filter_at → get_or (marking buffer a) i 0 ≡ get_or buffer i 0
  unfolding marking
  marking_before i h = with_before (with_bit buffer (first_bit a)) i (second_bit a) h ∙ with_before buffer i (first_bit a) h

  pub marking_bit : length buffer ≡ buffer_words → (i : ℕ) → i < filter_size → is_set (marking buffer a) i ≡ is_set buffer i || is_bit_of a i
  unfolding marking is_bit_of
  marking_bit words i h =
      with_bit_holds (with_bit buffer (first_bit a)) (with_length buffer (first_bit a) ∙ words) i (second_bit a) h (second_below a)
      ∙ ap (λ (t : Bool). t || eqb i (second_bit a)) (with_bit_holds buffer words i (first_bit a) h (first_below a))
      ∙ or_assoc (is_set buffer i) (eqb i (first_bit a)) (eqb i (second_bit a))

-- a word before the filter is none of its bits
pub set_before : (buffer : List ℕ) (at word i : ℕ) → at < filter_at → is_set (set buffer at word) i ≡ is_set buffer i
unfolding is_set
set_before buffer at word i h = rw (get_or-set_other buffer at (bit_place i) word 0 (λ e. omega arith))

-- a word that is zero has no bit
pub zero_bit : (buffer : List ℕ) (i : ℕ) → get_or buffer (bit_place i) 0 ≡ 0 → is_set buffer i ≡ false
unfolding is_set
zero_bit buffer i none = rw (none, zero-div (bit_worth i))

-- an address has both its bits
pub own_first : (a : ℕ) → is_bit_of a (first_bit a) ≡ true
unfolding is_bit_of
own_first a = rw (eq-eqb (first_bit a) (first_bit a) refl)

pub own_second : (a : ℕ) → is_bit_of a (second_bit a) ≡ true
unfolding is_bit_of
own_second a = rw (eq-eqb (second_bit a) (second_bit a) refl, or-true)
