-- What stands between a name's start and the next one's is that name: one rule, for every table of names.
use Prim.Native.Nat.{ℕ, zero, suc, ◌+◌, ◌-◌, ◌<◌, ◌≤◌}
use Prim.Native.String as text
use mathlib.Core.Path.{◌≡◌, refl, subst}
use mathlib.Core.List.{List, [], ◌∷◌}
use native.Mathlib.Omega.{arith}
use native.Mathlib.Nat.{le_of_suc-le-suc}
use native.Mathlib.Numerals.{add-one}
use lib.ListN.{length, get_or, take, drop, length-append}
use lib.Seq.{take-append_seam, drop-append-add}
use Rattle.status.specs.Names.{names, bytes}
use Rattle.status.specs.Letters.{joined, letters, starts_from, starts, Spans}
use Rattle.status.specs.Laws.{name_is}

-- name n of some names, the first of them starting at a place: where it starts and ends, and the letters between
record Held (at : ℕ) (ss : List text.String) (n start end : ℕ) : Type 0 where
  from : at ≤ start
  ends : end ≡ start + length (bytes (get_or ss n ""))
  within : end ≤ at + length (joined ss)
  is : take (length (bytes (get_or ss n ""))) (drop (start - at) (joined ss)) ≡ bytes (get_or ss n "")

first_start : (at : ℕ) (ss : List text.String) → get_or (starts_from at ss) 0 0 ≡ at
first_start at [] = refl
first_start at (s ∷ ss) = refl

held : (at : ℕ) (ss : List text.String) (n : ℕ) → n < length ss → Held at ss n (get_or (starts_from at ss) n 0) (get_or (starts_from at ss) (suc n) 0)
held at [] n h = absurd (omega arith)
held at (s ∷ ss) zero h =
    let none : at - at ≡ 0 = omega arith in
    record {
      from = omega arith;
      ends = first_start (at + length (bytes s)) ss;
      within = rw (first_start (at + length (bytes s)) ss, length-append (bytes s) (joined ss)) (omega arith);
      is = rw none (take-append_seam (bytes s) (joined ss));
    }
held at (s ∷ ss) (suc n) h = later (get_or (starts_from behind ss) n 0) (get_or (starts_from behind ss) (suc n) 0) (held behind ss n (le_of_suc-le-suc h))
  where
    behind : ℕ
    behind = at + length (bytes s)

    later : (start end : ℕ) → Held (at + length (bytes s)) ss n start end → Held at (s ∷ ss) (suc n) start end
    later start end p =
        let past : start - at ≡ length (bytes s) + (start - (at + length (bytes s))) = omega (arith, p.from) in
        record {
          from = omega (arith, p.from);
          ends = p.ends;
          within = rw (length-append (bytes s) (joined ss)) (omega (arith, p.within));
          is = rw (past, drop-append-add (bytes s) (joined ss) (start - (at + length (bytes s)))) p.is;
        }

pub span_held : (n : ℕ) (all : List ℕ) → n < length names → all ≡ starts → Spans n (record { start = get_or all n 0; end = get_or all (n + 1) 0 })
span_held n all h e = rw (e, add-one) (spans (get_or starts n 0) (get_or starts (suc n) 0) (held 0 names n h))
  where
    spans : (start end : ℕ) → Held 0 names n start end → Spans n (record { start = start; end = end })
    spans start end p =
        let long : end - start ≡ length (bytes (get_or names n "")) = omega (arith, p.ends) in
        let whole : start - 0 ≡ start = omega arith in
        let name : take (length (bytes (get_or names n ""))) (drop start letters) ≡ bytes (get_or names n "")
        = subst (λ (k : ℕ). take (length (bytes (get_or names n ""))) (drop k letters) ≡ bytes (get_or names n "")) whole p.is in
        record { rises = omega (arith, p.ends); within = p.within; is = rw (name_is n, long) name }
