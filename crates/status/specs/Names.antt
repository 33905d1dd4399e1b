-- The names of the numbers. "The names are held as thirteen rows of eight bytes, filled with spaces", and each number that joins
-- them has a row more. From 4/13 on they are held "unpadded, end to end" (`Letters`); the rows still say what each name is.
use Rattle.std.specs.Prelude.{ℕ, ◌-◌, ◌≤◌, ◌≡◌, cond, List, [], ◌∷◌, ◌++◌, eqb, leb, length, get_or, drop, replicate}
use Prim.Native.Char.{code}
use Prim.Native.String as text

-- by number, from 0
abbrev pub names : List text.String
names =
    "ok"
    ∷ "shape"
    ∷ "work"
    ∷ "entry"
    ∷ "regs"
    ∷ "address"
    ∷ "slot"
    ∷ "buffer"
    ∷ "room"
    ∷ "waiting"
    ∷ "last"
    ∷ "none"
    ∷ "cut"
    ∷ "trace"
    ∷ "filter"
    ∷ "target"
    ∷ "short"
    ∷ "past"
    ∷ "logheld"
    ∷ []

abbrev pub row_bytes : ℕ
row_bytes = 8

-- so no name has more letters
abbrev pub most_letters : ℕ
most_letters = row_bytes

abbrev pub space : ℕ
space = 32

abbrev pub bytes : text.String → List ℕ
bytes text.[] = []
bytes (text.◌∷◌ c cs) = code c ∷ bytes cs

abbrev pub row : text.String → List ℕ
row name = bytes name ++ replicate (row_bytes - length (bytes name)) space

-- a number that has no name has a blank row
unfoldable pub row_of : ℕ → List ℕ
row_of number = row (get_or names number "")

abbrev pub without_spaces : List ℕ → List ℕ
without_spaces [] = []
without_spaces (b ∷ bs) = cond (eqb b space) (without_spaces bs) (b ∷ without_spaces bs)

-- "every number gives its old row without the spaces"
unfoldable pub name_of : ℕ → List ℕ
name_of number = without_spaces (row_of number)

-- a name at the start of a text; a text that is too short for it stays as it is
unfoldable pub with_name : (name text : List ℕ) → List ℕ
with_name name text = cond (leb (length name) (length text)) (name ++ drop (length name) text) text

-- what putting a number's name into a text leaves and answers
pub record PutsName (number : ℕ) (text text' : List ℕ) (r : ℕ) : Type 0 where
  pub letters : r ≡ length (name_of number)
  pub short : r ≤ most_letters
  pub left : text' ≡ with_name (name_of number) text
