-- Stores to a part of a memory that is lent, `&mut memory[a..]`, are stores to the whole.
use Rattle.std.specs.Prelude.{ℕ, zero, suc, ◌+◌, ◌-◌, ◌≤◌, ◌≡◌, refl, List, ◌∷◌, ◌++◌, [], length, set, take, drop}
use Rattle.std.proofs.Common.{sym, ap, ◌∙◌, arith, length-set, take-append-drop}
use Rattle.std.proofs.lemmas.List.{take-set-le, drop-set-add}
use Rattle.base.specs.Parts.{rest_lent, rest_back}
use Rattle.board.specs.declared.Meter.{Meter}
use Rattle.board.specs.Stores.{Store, applied, allowed, stored, Ran, shifted}

pub length_shifted : (a : ℕ) (ss : List Store) → length (shifted a ss) ≡ length ss
unfolding shifted
length_shifted a [] = refl
length_shifted a (s ∷ ss) = ap suc (length_shifted a ss)

pub shifted_append : (a : ℕ) (xs ys : List Store) → shifted a (xs ++ ys) ≡ shifted a xs ++ shifted a ys
unfolding shifted
shifted_append a [] ys = refl
shifted_append a (x ∷ xs) ys = rw (shifted_append a xs ys)

take_shifted : (k a : ℕ) (ss : List Store) → take k (shifted a ss) ≡ shifted a (take k ss)
unfolding shifted
take_shifted zero a ss = refl
take_shifted (suc k) a [] = refl
take_shifted (suc k) a (s ∷ ss) = rw (take_shifted k a ss)

pub applied_shifted : (a : ℕ) (ss : List Store) (b : List ℕ) → a ≤ length b → applied b (shifted a ss) ≡ take a b ++ applied (drop a b) ss
unfolding shifted applied
applied_shifted a [] b h = sym (take-append-drop a b)
applied_shifted a (s ∷ ss) b h =
    let h2 : a ≤ length (set b (a + s.at) s.word) = simp length-set h in
    let h3 : a ≤ a + s.at = omega arith in
    applied_shifted a ss (set b (a + s.at) s.word) h2 ∙ rw (take-set-le, drop-set-add)

-- in the words in which the part is lent and comes back
pub ran_part : {b p : List ℕ} {m m' : Meter} {ss : List Store} (a : ℕ) → a ≤ length b → Ran (take (length b - a) (drop a b)) m ss p m'
    → Ran b m (shifted a ss) (take a b ++ (p ++ drop (length b - a) (drop a b))) m'
unfolding stored
ran_part {b} {p} {m} {m'} {ss} a h q =
    let e : p ≡ applied (drop a b) (take (allowed m) ss) = rw rest_lent at q.memory in
    record {
      memory = rw (rest_back a b p, take_shifted, applied_shifted, e);
      meter = rw length_shifted q.meter;
    }
