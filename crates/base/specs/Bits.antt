-- The binary digits of two numbers taken together.
use Rattle.std.specs.Prelude.{ℕ, ◌+◌, ◌-◌, ◌*◌, ◌/◌, ◌%◌, ◌^◌, ◌<◌, ◌≤◌, ◌≡◌, refl}
use Rattle.std.proofs.Common.{sym, ap₂, ◌∙◌, mod-lt, arith, pow_pos}
use Rattle.std.specs.Int.Bits.{bit_and, bit_or, or_add_and}
use Rattle.std.proofs.lemmas.Nat.{and_le_l, and_le_r, and_block, and_mask}
use Rattle.std.proofs.Math.Pow.{split}

-- a or b, digit by digit, is no less than either: with `or_lt` of the library, it is below a power of two exactly where both are
pub left_or : (a b : ℕ) → a ≤ bit_or a b
left_or a b = omega (arith, or_add_and a b, and_le_r a b)

pub right_or : (a b : ℕ) → b ≤ bit_or a b
right_or a b = omega (arith, or_add_and a b, and_le_l a b)

-- j digits from digit k on, and the last i
pub and_high_last : (n j k i : ℕ) → 2 ^ i - 1 < 2 ^ k → bit_and n ((2 ^ j - 1) * 2 ^ k + (2 ^ i - 1)) ≡ n / 2 ^ k % 2 ^ j * 2 ^ k + n % 2 ^ k % 2 ^ i
and_high_last n j k i h =
    ap₂ bit_and (sym (split n k)) refl ∙ and_block k (n / 2 ^ k) (2 ^ j - 1) (n % 2 ^ k) (2 ^ i - 1) (mod-lt n (pow_pos k)) h
    ∙ ap₂ (λ (x y : ℕ). x * 2 ^ k + y) (and_mask (n / 2 ^ k) j) (and_mask (n % 2 ^ k) i)
