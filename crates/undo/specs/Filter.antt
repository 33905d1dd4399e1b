-- The filter of the undo buffer, request 3/13: "Add the filter of source document 000, 4,096 bits as 64 words after the undo places". The
-- lists here are the buffer: the places of its entries, and the filter's words behind them.
use Rattle.std.specs.Prelude.{ℕ, zero, suc, ◌+◌, ◌-◌, ◌*◌, ◌/◌, ◌%◌, ◌^◌, Bool, ◌&&◌, ◌||◌, List, ltb, eqb, get_or, set}
use Rattle.std.specs.Int.Bits.{bit_or}
use Rattle.std.specs.Int.Count.{ones}
use Rattle.layout.specs.Limits.{word_bits, filter_size}
use Rattle.layout.specs.Memory.{filter_at}

-- "bit a mod 4,096 and bit (a × 40503 mod 65,536) divided by 16, rounded down"
unfoldable pub first_bit : (address : ℕ) → ℕ
first_bit a = a % filter_size

unfoldable pub second_bit : (address : ℕ) → ℕ
second_bit a = a * 40503 % 65536 / 16

-- bit i is one of these two
unfoldable pub is_bit_of : (address i : ℕ) → Bool
is_bit_of a i = eqb i (first_bit a) || eqb i (second_bit a)

-- "Bit 0 is the most significant bit of the first word": the place of bit i's word in the buffer, and what the bit is worth in it
abbrev pub bit_place : ℕ → ℕ
bit_place i = filter_at + i / word_bits

abbrev pub bit_worth : ℕ → ℕ
bit_worth i = 2 ^ (word_bits - 1 - i % word_bits)

unfoldable pub is_set : List ℕ → (i : ℕ) → Bool
is_set buffer i = eqb (get_or buffer (bit_place i) 0 / bit_worth i % 2) 1

unfoldable pub with_bit : List ℕ → (i : ℕ) → List ℕ
with_bit buffer i = set buffer (bit_place i) (bit_or (get_or buffer (bit_place i) 0) (bit_worth i))

-- "A new entry for address a sets bit .. and bit .."
unfoldable pub marking : List ℕ → (address : ℕ) → List ℕ
marking buffer a = with_bit (with_bit buffer (first_bit a)) (second_bit a)

-- "both bits of its address are set"
unfoldable pub marks : List ℕ → (address : ℕ) → Bool
marks buffer a = is_set buffer (first_bit a) && is_set buffer (second_bit a)

-- "A write-out flushes exactly when b > 0 and both bits of its address are set."
unfoldable pub hits : List ℕ → (count address : ℕ) → Bool
hits buffer count a = ltb 0 count && marks buffer a

-- "the number of filter bits set": the ones of each of the filter's words, summed
unfoldable pub ones_of : List ℕ → (words : ℕ) → ℕ
ones_of buffer zero = 0
ones_of buffer (suc k) = ones_of buffer k + ones (get_or buffer (filter_at + k) 0)
