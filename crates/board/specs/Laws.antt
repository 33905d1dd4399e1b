-- How runs compose: none, one after another, one store, a loop of them. Callers cite these and do not unfold `Ran`.
use Rattle.std.specs.Prelude.{ℕ, zero, suc, ◌+◌, ◌-◌, ◌<◌, ◌≤◌, ◌≡◌, refl, Bool, true, false, List, ◌∷◌, ◌++◌, [], ltb, length, set, take}
use Rattle.std.proofs.Common.{◌∙◌, append-nil, add-one, arith, ltb-true, ltb-false, length-set, length-append, take_all}
use Rattle.std.proofs.Math.Nat.{zero-sub, sub-zero, suc-sub-suc}
use Rattle.std.proofs.Math.Seq.{take-nil}
use Rattle.board.specs.declared.Meter.{Meter}
use Rattle.board.specs.Stores.{Store, one, applied, allowed, stored, spent, Ran, each}

pub length_applied : (ss : List Store) (b : List ℕ) → length (applied b ss) ≡ length b
unfolding applied
length_applied [] b = refl
length_applied (s ∷ ss) b = length_applied ss (set b s.at s.word) ∙ length-set b s.at s.word

pub applied_append : (xs ys : List Store) (b : List ℕ) → applied b (xs ++ ys) ≡ applied (applied b xs) ys
unfolding applied
applied_append [] ys b = refl
applied_append (s ∷ xs) ys b = applied_append xs ys (set b s.at s.word)

pub take_append : (k : ℕ) (xs ys : List Store) → take k (xs ++ ys) ≡ take k xs ++ take (k - length xs) ys
take_append zero [] ys = refl
take_append zero (x ∷ xs) ys = rw zero-sub
take_append (suc k) [] ys = rw sub-zero
take_append (suc k) (x ∷ xs) ys = rw (suc-sub-suc, take_append k xs ys)

spent_more : (m : Meter) (a b : ℕ) → spent (spent m a) b ≡ spent m (a + b)
unfolding spent
spent_more m a b = let l : m.left - a - b ≡ m.left - (a + b) = omega arith in rw l

allowed_more : (m : Meter) (a : ℕ) → allowed (spent m a) ≡ allowed m - a
unfolding spent allowed
allowed_more m a = omega arith

stored_more : (b : List ℕ) (m : Meter) (xs ys : List Store) → stored b m (xs ++ ys) ≡ stored (stored b m xs) (spent m (length xs)) ys
unfolding stored
stored_more b m xs ys = rw (take_append, applied_append, allowed_more)

-- no store is due
pub ran_none : (b : List ℕ) (m : Meter) → Ran b m [] b m
unfolding stored spent applied
ran_none b m = let l : m.left - 0 ≡ m.left = omega arith in record { memory = rw take-nil; meter = rw l }

-- one run after another, whether or not the cut came between them
pub ran_then : {b b' b'' : List ℕ} {m m' m'' : Meter} {xs ys : List Store} → Ran b m xs b' m' → Ran b' m' ys b'' m'' → Ran b m (xs ++ ys) b'' m''
ran_then {b} {b'} {b''} {m} {m'} {m''} {xs} {ys} p q =
    record {
      memory = rw (stored_more, ← p.memory, ← p.meter) q.memory;
      meter = rw (length-append, ← spent_more, ← p.meter) q.meter;
    }

-- one store, with something left
pub ran_made : (b : List ℕ) (m : Meter) (at w : ℕ) → 1 < m.left → Ran b m (one at w) (set b at w) (record { left = m.left - 1 })
unfolding stored spent applied allowed
ran_made b m at w h = let k : length (one at w) ≤ m.left - 1 = omega arith in record { memory = rw take_all; meter = refl }

-- one store, with nothing left
pub ran_cut : (b : List ℕ) (m : Meter) (at w : ℕ) → m.left ≤ 1 → Ran b m (one at w) b (record { left = 0 })
unfolding stored spent applied allowed
ran_cut b m at w h = let l : m.left - 1 ≡ 0 = omega arith in record { memory = rw l; meter = rw l }

pub ran_length : {b b' : List ℕ} {m m' : Meter} (ss : List Store) → Ran b m ss b' m' → length b' ≡ length b
unfolding stored
ran_length {b} {b'} {m} ss p = rw p.memory (length_applied (take (allowed m) ss) b)

-- with more due than allowed, what comes then changes nothing
behind_cut : {b b' b'' : List ℕ} {m m' m'' : Meter} (xs ys zs : List Store) → Ran b m xs b' m' → Ran b' m' zs b'' m''
    → allowed m < length xs → Ran b m (xs ++ ys) b'' m''
unfolding stored spent applied allowed
behind_cut {b} {b'} {b''} {m} {m'} {m''} xs ys zs p q h =
    let l : m'.left ≡ 0 = rw p.meter (omega arith) in
    let none : m'.left - 1 ≡ 0 = omega arith in
    let n : m.left - 1 - length xs ≡ 0 = omega arith in
    let z : m'.left - length zs ≡ m.left - (length xs + length ys) = omega arith in
    record { memory = q.memory ∙ rw (none, p.memory, take_append, n, append-nil); meter = rw length-append (q.meter ∙ rw z) }

-- every store was allowed
pub ran_all : {b b' : List ℕ} {m m' : Meter} (ss : List Store) → Ran b m ss b' m' → length ss ≤ allowed m → b' ≡ applied b ss
unfolding stored
ran_all {b} {b'} {m} ss p h = p.memory ∙ rw take_all

-- One run after another that owes by what it read of the board. Behind a cut that may be anything: nothing is stored any more.
pub ran_read : {b b' b'' : List ℕ} {m m' m'' : Meter} (xs : List Store) {ys zs : List Store} → Ran b m xs b' m' → Ran b' m' zs b'' m''
    → (length xs ≤ allowed m → zs ≡ ys) → Ran b m (xs ++ ys) b'' m''
ran_read {b} {b'} {b''} {m} {m'} {m''} xs {ys} {zs} p q same = go (ltb (allowed m) (length xs)) refl
  where
    go : (t : Bool) → ltb (allowed m) (length xs) ≡ t → Ran b m (xs ++ ys) b'' m''
    go false e = rw (same (ltb-false (allowed m) (length xs) e)) at (ran_then p q)
    go true e = behind_cut xs ys zs p q (ltb-true (allowed m) (length xs) e)

-- a loop: before its first turn, after one more, and at its end
pub each_none : (f : ℕ → List Store) (b : List ℕ) (m : Meter) → Ran b m (each f 0) b m
unfolding each
each_none f b m = ran_none b m

pub each_next : (f : ℕ → List Store) (k : ℕ) {b b' b'' : List ℕ} {m m' m'' : Meter} → Ran b m (each f k) b' m' → Ran b' m' (f k) b'' m''
    → Ran b m (each f (k + 1)) b'' m''
unfolding each
each_next f k p q = rw add-one (ran_then p q)

pub each_done : (f : ℕ → List Store) (i k : ℕ) {b b' : List ℕ} {m m' : Meter} → i ≤ k → k ≤ i → Ran b m (each f i) b' m' → Ran b m (each f k) b' m'
each_done f i k h g p = let e : k ≡ i = omega arith in rw e p
