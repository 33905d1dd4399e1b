-- Laws of the names.
use Rattle.std.specs.Prelude.{ℕ, zero, suc, ◌+◌, ◌≤◌, ◌≡◌, refl, Bool, true, ◌&&◌, List, [], ◌∷◌, ◌++◌, map, leb, length, get_or, drop}
use Prim.Native.String as text
use Rattle.std.proofs.Common.{sym, ap, ◌∙◌, arith, leb-true, le-leb, length-append}
use Rattle.std.proofs.Math.ListN.{get_or-map, get_or-eq_default}
use Rattle.base.specs.Tests.{and_left, and_right}
use Rattle.status.specs.Names.{names, most_letters, bytes, row, row_of, without_spaces, name_of, with_name}
use Rattle.status.specs.Letters.{joined, letters}

-- "the bytes are as many as the names' letters"
abbrev pub letters_in : List text.String → ℕ
letters_in [] = 0
letters_in (s ∷ ss) = length (bytes s) + letters_in ss

letters_joined : (ss : List text.String) → length (joined ss) ≡ letters_in ss
letters_joined [] = refl
letters_joined (s ∷ ss) = rw (length-append (bytes s) (joined ss), letters_joined ss)

pub letters_many : length letters ≡ letters_in names
letters_many = letters_joined names

-- no name has a space, and each fits into its row: by one test of the whole table
rows_unspaced : map (λ (s : text.String). without_spaces (row s)) names ≡ map bytes names
rows_unspaced = refl

pub name_is : (n : ℕ) → name_of n ≡ bytes (get_or names n "")
unfolding name_of row_of
name_is n =
    sym (get_or-map (λ (s : text.String). without_spaces (row s)) names n "")
    ∙ ap (λ (l : List (List ℕ)). get_or l n []) rows_unspaced
    ∙ get_or-map bytes names n ""

-- every other number has the empty name
pub name_none : (n : ℕ) → length names ≤ n → name_of n ≡ []
name_none n h = name_is n ∙ rw (get_or-eq_default names "" h)

abbrev all_short : List text.String → Bool
all_short [] = true
all_short (s ∷ ss) = leb (length (bytes s)) most_letters && all_short ss

short_at : (ss : List text.String) (n : ℕ) → all_short ss ≡ true → length (bytes (get_or ss n "")) ≤ most_letters
short_at [] n h = omega arith
short_at (s ∷ ss) zero h = leb-true (length (bytes s)) most_letters (and_left (leb (length (bytes s)) most_letters) (all_short ss) h)
short_at (s ∷ ss) (suc n) h = short_at ss n (and_right (leb (length (bytes s)) most_letters) (all_short ss) h)

pub name_short : (n : ℕ) → length (name_of n) ≤ most_letters
name_short n = rw (name_is n) (short_at names n refl)

-- a text with room for a name
pub with_name_holds : (name text : List ℕ) → length name ≤ length text → with_name name text ≡ name ++ drop (length name) text
unfolding with_name
with_name_holds name text h = rw (le-leb (length name) (length text) h)
