-- How the names are held: "unpadded, end to end".
use Rattle.std.specs.Prelude.{ℕ, ◌+◌, ◌-◌, ◌≤◌, ◌≡◌, List, [], ◌∷◌, ◌++◌, length, take, drop}
use Prim.Native.String as text
use Rattle.status.specs.declared.names.Span.{Span}
use Rattle.status.specs.Names.{names, bytes, name_of}

abbrev pub joined : List text.String → List ℕ
joined [] = []
joined (s ∷ ss) = bytes s ++ joined ss

abbrev pub letters : List ℕ
letters = joined names

-- where each of some names starts, the first of them at a place, and where the last one ends
abbrev pub starts_from : ℕ → List text.String → List ℕ
starts_from at [] = at ∷ []
starts_from at (s ∷ ss) = at ∷ starts_from (at + length (bytes s)) ss

abbrev pub starts : List ℕ
starts = starts_from 0 names

-- these letters are the number's name
pub record Spans (number : ℕ) (s : Span) : Type 0 where
  pub rises : s.start ≤ s.end
  pub within : s.end ≤ length letters
  pub is : take (s.end - s.start) (drop s.start letters) ≡ name_of number
