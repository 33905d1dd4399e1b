-- A list given place by place: the n values of a function from place i on. The log and the buffer are such lists.
-- Assumes nothing.
use Prim.Native.Nat.{ℕ, zero, suc, ◌+◌, ◌≤◌, ◌<◌}
use Rattle.std.specs.Prelude.{◌≡◌, List, [], ◌∷◌, ◌++◌, length, get_or, drop}
use Rattle.std.proofs.Math.Path.{refl, ap}
use Rattle.std.proofs.Common.{zero-add, arith, drop_at}
use Rattle.std.proofs.Math.Nat.{add-zero, suc-add, add-suc}
use Rattle.base.specs.Cases.{here_or_there}
use Rattle.base.specs.Every.{Every}

unfoldable pub listed : {A : Type 0} → (ℕ → A) → (i n : ℕ) → List A
listed f i zero = []
listed f i (suc n) = f i ∷ listed f (suc i) n

module _ {A : Type 0} where
  pub listed_same : (f g : ℕ → A) (i n : ℕ) → ((k : ℕ) → i ≤ k → k < i + n → f k ≡ g k) → listed f i n ≡ listed g i n
  unfolding listed
  listed_same f g i zero same = refl
  listed_same f g i (suc n) same =
      rw (same i (omega arith) (omega arith), listed_same f g (suc i) n (λ k lo hi. same k (omega arith) (omega arith)))

  pub length_listed : (f : ℕ → A) (i n : ℕ) → length (listed f i n) ≡ n
  unfolding listed
  length_listed f i zero = refl
  length_listed f i (suc n) = ap suc (length_listed f (suc i) n)

  pub every_listed : (Q : A → Type 0) (f : ℕ → A) (i n : ℕ) → ((k : ℕ) → i ≤ k → k < i + n → Q (f k)) → Every Q (listed f i n)
  unfolding listed
  every_listed Q f i zero h = tt
  every_listed Q f i (suc n) h =
      (h i (omega arith) (omega arith), every_listed Q f (suc i) n (λ k lo hi. h k (omega arith) (omega arith)))

  pub listed_every : (Q : A → Type 0) (f : ℕ → A) (i n : ℕ) → Every Q (listed f i n) → (k : ℕ) → i ≤ k → k < i + n → Q (f k)
  unfolding listed
  listed_every Q f i zero h k lo hi = absurd (omega arith)
  listed_every Q f i (suc n) h k lo hi =
      here_or_there i (λ k. i ≤ k → k < i + suc n → Q (f k)) (λ lo hi. h.0)
      (λ k away lo hi. listed_every Q f (suc i) n h.1 k (omega arith) (omega arith)) k lo hi

  listed_shift : (f : ℕ → A) (j i n : ℕ) → listed (λ k. f (j + k)) i n ≡ listed f (j + i) n
  unfolding listed
  listed_shift f j i zero = refl
  listed_shift f j i (suc n) = rw (listed_shift f j (suc i) n, add-suc)

  listed_more : (f : ℕ → A) (i n m : ℕ) → listed f i (n + m) ≡ listed f i n ++ listed f (i + n) m
  unfolding listed
  listed_more f i zero m = rw (zero-add m, add-zero i)
  listed_more f i (suc n) m = rw (suc-add n m, listed_more f (suc i) n m, suc-add i n, add-suc i n)

  -- the first n, and the others counted anew
  module _ (f : ℕ → A) (n m : ℕ) where
    pub listed_append : listed f 0 (n + m) ≡ listed f 0 n ++ listed (λ k. f (n + k)) 0 m
    listed_append = rw (listed_more f 0 n m, zero-add n, listed_shift f n 0 m, add-zero n)

    pub listed_drop : drop n (listed f 0 (n + m)) ≡ listed (λ k. f (n + k)) 0 m
    listed_drop = rw listed_append (drop_at (listed f 0 n) (listed (λ k. f (n + k)) 0 m) n (length_listed f 0 n))

-- a list is the values at its places
pub listed_whole : (xs : List ℕ) (f : ℕ → ℕ) (i : ℕ) → ((k : ℕ) → f (i + k) ≡ get_or xs k 0) → listed f i (length xs) ≡ xs
unfolding listed
listed_whole [] f i same = refl
listed_whole (x ∷ xs) f i same =
    let first : f i ≡ x = rw (add-zero i) at (same 0) in
    rw (first, listed_whole xs f (suc i) (λ k. rw (suc-add i k, ← add-suc i k) (same (suc k))))
