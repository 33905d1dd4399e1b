-- Words that lie before every store stay as they were, so what is read there is the same before and after.
use Rattle.std.specs.Prelude.{ℕ, zero, suc, ◌<◌, ◌≤◌, ◌≡◌, refl, List, ◌∷◌, ◌++◌, [], get_or, set, take}
use Rattle.std.proofs.Common.{◌∙◌, arith, get_or-set_other}
use Rattle.board.specs.declared.Meter.{Meter}
use Rattle.board.specs.Stores.{Store, one, applied, allowed, stored, Ran, each}

-- every store is at place n or behind it
unfoldable pub Beyond : ℕ → List Store → Type 0
Beyond n [] = Unit {0}
Beyond n (s ∷ ss) = (n ≤ s.at) × Beyond n ss

pub beyond_none : (n : ℕ) → Beyond n []
unfolding Beyond
beyond_none n = tt

pub beyond_one : (n at w : ℕ) → n ≤ at → Beyond n (one at w)
unfolding Beyond
beyond_one n at w h = (h, tt)

pub beyond_append : (n : ℕ) (xs ys : List Store) → Beyond n xs → Beyond n ys → Beyond n (xs ++ ys)
unfolding Beyond
beyond_append n [] ys h g = g
beyond_append n (x ∷ xs) ys h g = (h.0, beyond_append n xs ys h.1 g)

pub beyond_each : (n : ℕ) (f : ℕ → List Store) → ((i : ℕ) → Beyond n (f i)) → (k : ℕ) → Beyond n (each f k)
unfolding each
beyond_each n f h zero = beyond_none n
beyond_each n f h (suc k) = beyond_append n (each f k) (f k) (beyond_each n f h k) (h k)

beyond_take : (n k : ℕ) (ss : List Store) → Beyond n ss → Beyond n (take k ss)
unfolding Beyond
beyond_take n zero ss h = tt
beyond_take n (suc k) [] h = tt
beyond_take n (suc k) (s ∷ ss) h = (h.0, beyond_take n k ss h.1)

pub applied_kept : (n : ℕ) (ss : List Store) (b : List ℕ) (i : ℕ) → Beyond n ss → i < n → get_or (applied b ss) i 0 ≡ get_or b i 0
unfolding Beyond applied
applied_kept n [] b i h g = refl
applied_kept n (s ∷ ss) b i h g =
    let k : n ≤ s.at = h.0 in
    applied_kept n ss (set b s.at s.word) i h.1 g ∙ get_or-set_other b s.at i s.word 0 (omega arith)

pub ran_kept : {b b' : List ℕ} {m m' : Meter} (n : ℕ) (ss : List Store) → Beyond n ss → Ran b m ss b' m' → (i : ℕ) → i < n
    → get_or b' i 0 ≡ get_or b i 0
unfolding stored
ran_kept {b} {b'} {m} n ss h p i g = rw p.memory (applied_kept n (take (allowed m) ss) b i (beyond_take n (allowed m) ss h) g)
