-- Text as bytes: numbers in decimal, and names.
use Rattle.std.specs.Prelude.{ℕ, ◌+◌, ◌^◌, List, [], ◌∷◌, ◌++◌, leb}
use Rattle.base.specs.Walk.{first_from}
use Rattle.status.specs.declared.Status.{Status}
use Rattle.status.specs.Names.{name_of}
use Rattle.status.specs.Numbers.{number_of}
use Rattle.io.specs.Digits.{last_digits}

abbrev pub space_byte : ℕ
space_byte = 32

abbrev pub line_feed : ℕ
line_feed = 10

-- the most digits of a word, 2^64 − 1 having so many
abbrev pub most_digits : ℕ
most_digits = 20

-- and its bytes with a space before it
abbrev pub number_bytes : ℕ
number_bytes = 1 + most_digits

-- how many digits a word has: the first k from 1 on with n < 10^k, which is at most `most_digits`
unfoldable pub decimal_places : ℕ → ℕ
decimal_places n = first_from (λ k. leb (10 ^ k) n) 1 most_digits

unfoldable pub decimal_of : ℕ → List ℕ
decimal_of n = last_digits 10 (decimal_places n) n

-- each number with a space before it
unfoldable pub numbers_text : List ℕ → List ℕ
numbers_text [] = []
numbers_text (n ∷ ns) = (space_byte ∷ []) ++ (decimal_of n ++ numbers_text ns)

unfoldable pub name_text : Status → List ℕ
name_text s = name_of (number_of s)
