-- Four slots: whether one of them is dirty, and whether all are, from what `any` and `all` tell of a range.
use Prim.Native.Nat.{ℕ, zero, suc, ◌+◌, ◌<◌}
use mathlib.Core.Path.{◌≡◌, refl, sym, ap, ap₂, ◌∙◌}
use mathlib.Core.Bool.{Bool, true, false}
use mathlib.Core.List.{List, [], ◌∷◌}
use native.Mathlib.Omega.{arith}
use lib.ListN.{length, get_or}
use Rattle.std.specs.Bool.{MatchBool}
use Rattle.std.specs.List.{range_with_len, AllWithin, HoldsAt}
use Rattle.std.proofs.Math.Bool.{or-true, and-false}
use Rattle.base.specs.Several.{all_of, any_of}
use Rattle.layout.specs.Limits.{ways}
use Rattle.slots.specs.Sets.{slots_from}

module _ (f : ℕ → Bool) where
  any_true : (ks : List ℕ) (i : ℕ) → i < length ks → f (get_or ks i 0) ≡ true → any_of f ks ≡ true
  any_true [] i h e = absurd (omega arith)
  any_true (k ∷ ks) zero h e = rw e
  any_true (k ∷ ks) (suc i) h e = rw (any_true ks i (omega arith) e, or-true)

  any_false : (ks : List ℕ) → ((i : ℕ) → i < length ks → f (get_or ks i 0) ≡ false) → any_of f ks ≡ false
  any_false [] none = refl
  any_false (k ∷ ks) none = rw (none 0 (omega arith), any_false ks (λ i h. none (suc i) (omega arith)))

  all_false : (ks : List ℕ) (i : ℕ) → i < length ks → f (get_or ks i 0) ≡ false → all_of f ks ≡ false
  all_false [] i h e = absurd (omega arith)
  all_false (k ∷ ks) zero h e = rw e
  all_false (k ∷ ks) (suc i) h e = rw (all_false ks i (omega arith) e, and-false)

  all_true : (ks : List ℕ) → ((i : ℕ) → i < length ks → f (get_or ks i 0) ≡ true) → all_of f ks ≡ true
  all_true [] every = refl
  all_true (k ∷ ks) every = rw (every 0 (omega arith), all_true ks (λ i h. every (suc i) (omega arith)))

  module _ (k : ℕ) where
    abbrev set : List ℕ
    set = range_with_len k ways

    set_same : set ≡ slots_from k
    set_same =
        let two : k + 1 + 1 ≡ k + 2 = omega arith in
        let three : k + 1 + 1 + 1 ≡ k + 3 = omega arith in
        ap₂ (λ (x y : ℕ). k ∷ (k + 1) ∷ x ∷ y ∷ []) two three

    pub any_told : (r : Bool)
        → MatchBool r ((i : ℕ) × (i < length set) × HoldsAt (λ x. f x ≡ true) set i) (AllWithin (λ x. f x ≡ false) set 0 (length set))
        → r ≡ any_of f (slots_from k)
    any_told true told = sym (any_true set told.0 told.1 (told.2 0)) ∙ ap (any_of f) set_same
    any_told false told = sym (any_false set (λ i h. told i 0 (omega arith) h)) ∙ ap (any_of f) set_same

    pub all_told : (r : Bool)
        → MatchBool r (AllWithin (λ x. f x ≡ true) set 0 (length set)) ((i : ℕ) × (i < length set) × HoldsAt (λ x. f x ≡ false) set i)
        → r ≡ all_of f (slots_from k)
    all_told true told = sym (all_true set (λ i h. told i 0 (omega arith) h)) ∙ ap (all_of f) set_same
    all_told false told = sym (all_false set told.0 told.1 (told.2 0)) ∙ ap (all_of f) set_same
