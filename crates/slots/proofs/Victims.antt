-- The victim of a set, the slot that an incoming line takes, is the one with the lowest form, the first of equals.
use Prim.Native.Nat.{ℕ, min, ◌+◌, ◌-◌, ◌*◌, ◌%◌, ◌^◌, ◌<◌, ◌≤◌}
use mathlib.Core.Path.{◌≡◌, refl, sym, ◌∙◌}
use mathlib.Core.Bool.{Bool, true, false, cond, ◌||◌, false≢true}
use mathlib.Core.List.{List, [], ◌∷◌}
use native.Mathlib.Omega.{arith}
use borrow.Author.Tests.{leb-true, leb-false, le-leb, lt-leb, ne_eqb, eqb-true, eqb-false}
use lib.Dec.{leb, eqb}
use Rattle.base.specs.Every.{Every, every_map}
use Rattle.base.specs.Several.{any_of, first_of, first_holds, first_none}
use Rattle.base.specs.Tests.{hold_together}
use Rattle.layout.specs.Limits.{ways, spare_bits}
use Rattle.layout.specs.Memory.{slot_in}
use Rattle.layout.specs.SlotTests.{slot_form}
use Rattle.slots.specs.Passes.{lowest_of}
use Rattle.slots.specs.Sets.{empty_at, clean_at, smallest_tag, victim_of}

-- the lowest, the first of equals
abbrev least_by : (ℕ → ℕ) → (k : ℕ) → List ℕ → ℕ
least_by f k [] = k
least_by f k (j ∷ js) = let rest = least_by f j js in cond (leb (f k) (f rest)) k rest

module _ (f : ℕ → ℕ) (Q : ℕ → Type 0) where
  least_every : (k : ℕ) (ks : List ℕ) → Every Q (k ∷ ks) → Q (least_by f k ks)
  least_every k [] h = h.0
  least_every k (j ∷ js) h = go (leb (f k) (f (least_by f j js))) h.0 (least_every j js h.1)
    where
      go : (t : Bool) {x y : ℕ} → Q x → Q y → Q (cond t x y)
      go true p q = p
      go false p q = q

-- where n is the least there can be, it is the first that has n
module _ (f : ℕ → ℕ) (p : ℕ → Bool) (n : ℕ) where
  abbrev AtLeast : ℕ → Type 0
  AtLeast k = (n ≤ f k) × (p k ≡ eqb (f k) n)

  first_least : (k : ℕ) (ks : List ℕ) (otherwise : ℕ) → Every AtLeast (k ∷ ks) → any_of p (k ∷ ks) ≡ true
      → first_of p (k ∷ ks) otherwise ≡ least_by f k ks
  first_least k [] otherwise h some = go (p k) some
    where
      go : (t : Bool) → t || false ≡ true → cond t k otherwise ≡ k
      go true e = refl
      go false e = absurd (false≢true e)
  first_least k (j ∷ js) otherwise h some = go (p k) refl some (first_least j js otherwise h.1)
    where
      rest : ℕ
      rest = least_by f j js

      go : (t : Bool) → p k ≡ t → t || any_of p (j ∷ js) ≡ true
          → (any_of p (j ∷ js) ≡ true → first_of p (j ∷ js) otherwise ≡ rest)
          → cond t k (first_of p (j ∷ js) otherwise) ≡ cond (leb (f k) (f rest)) k rest
      go true e x next =
          let here : f k ≡ n = eqb-true (f k) n (sym h.0.1 ∙ e) in
          let there = (least_every f AtLeast j js h.1).0 in
          rw (le-leb (f k) (f rest) (omega arith))
      go false e x next =
          let other : f k ≡ n → ⊥ = eqb-false (f k) n (sym h.0.1 ∙ e) in
          let found : p (first_of p (j ∷ js) otherwise) ≡ true = first_holds p (j ∷ js) otherwise x in
          let same : p rest ≡ true = rw (next x) at found in
          let there : f rest ≡ n = eqb-true (f rest) n (sym (least_every f AtLeast j js h.1).1 ∙ same) in
          next x ∙ sym (rw (lt-leb (f k) (f rest) (omega (arith, h.0.0))))

or_false : (a b : Bool) → a || b ≡ false → (a ≡ false) × (b ≡ false)
or_false true b e = absurd (false≢true (sym e))
or_false false b e = (refl, e)

-- ---- the choice

abbrev clean : ℕ
clean = 2 ^ 63

abbrev dirty_from : ℕ
dirty_from = 2 ^ 63 + 2 ^ 62

module _ (work : List ℕ) where
  abbrev form_at : ℕ → ℕ
  form_at k = slot_form (slot_in work k)

  -- a proper slot: empty, clean or dirty, and so its form
  pub data Ranked (k : ℕ) : Type 0 where
    is_empty : empty_at work k ≡ true → clean_at work k ≡ false → form_at k ≡ 0 → Ranked k
    is_clean : empty_at work k ≡ false → clean_at work k ≡ true → form_at k ≡ clean → Ranked k
    is_dirty : empty_at work k ≡ false → clean_at work k ≡ false → form_at k ≡ dirty_from + (slot_in work k).tag * 2 ^ spare_bits → Ranked k

  empty_least : (k : ℕ) → Ranked k → AtLeast form_at (empty_at work) 0 k
  empty_least k (is_empty e c f) = (omega arith, rw (e, f))
  empty_least k (is_clean e c f) = (omega arith, rw (e, f))
  empty_least k (is_dirty e c f) = (omega arith, rw (e, f) (sym (ne_eqb (dirty_from + (slot_in work k).tag * 2 ^ spare_bits) 0 (omega arith))))

  clean_least : (k : ℕ) → empty_at work k ≡ false → Ranked k → AtLeast form_at (clean_at work) clean k
  clean_least k n (is_empty e c f) = absurd (false≢true (sym n ∙ e))
  clean_least k n (is_clean e c f) = (omega arith, rw (c, f))
  clean_least k n (is_dirty e c f) =
      (omega arith, rw (c, f) (sym (ne_eqb (dirty_from + (slot_in work k).tag * 2 ^ spare_bits) clean (omega arith))))

  -- where all are dirty, forms rise as tags do
  abbrev Tagged : ℕ → Type 0
  Tagged k = form_at k ≡ dirty_from + (slot_in work k).tag * 2 ^ spare_bits

  tagged : (k : ℕ) → empty_at work k ≡ false → clean_at work k ≡ false → Ranked k → Tagged k
  tagged k n m (is_empty e c f) = absurd (false≢true (sym n ∙ e))
  tagged k n m (is_clean e c f) = absurd (false≢true (sym m ∙ c))
  tagged k n m (is_dirty e c f) = f

  tags_rise : (k j : ℕ) → Tagged k → Tagged j → leb (slot_in work k).tag (slot_in work j).tag ≡ leb (form_at k) (form_at j)
  tags_rise k j p q =
      hold_together _ _
      (λ t. let l = leb-true (slot_in work k).tag (slot_in work j).tag t in le-leb (form_at k) (form_at j) (rw (p, q) (omega arith)))
      (λ t. let l = rw (p, q) at (leb-true (form_at k) (form_at j) t) in le-leb (slot_in work k).tag (slot_in work j).tag (omega arith))

  smallest_least : (k : ℕ) (ks : List ℕ) → Every Tagged (k ∷ ks) → smallest_tag work (k ∷ ks) ≡ least_by form_at k ks
  smallest_least k [] h = refl
  smallest_least k (j ∷ js) h =
      rw (smallest_least j js h.1, tags_rise k (least_by form_at j js) h.0 (least_every form_at Tagged j js h.1))

  module _ (k : ℕ) (ks : List ℕ) (ranked : Every Ranked (k ∷ ks)) where
    cleans : (js : List ℕ) → any_of (empty_at work) js ≡ false → Every Ranked js → Every (AtLeast form_at (clean_at work) clean) js
    cleans [] n r = tt
    cleans (j ∷ js) n r =
        let both = or_false (empty_at work j) (any_of (empty_at work) js) n in
        (clean_least j both.0 r.0, cleans js both.1 r.1)

    dirties : (js : List ℕ) → any_of (empty_at work) js ≡ false → any_of (clean_at work) js ≡ false → Every Ranked js → Every Tagged js
    dirties [] n m r = tt
    dirties (j ∷ js) n m r =
        let empty = or_false (empty_at work j) (any_of (empty_at work) js) n in
        let cleaned = or_false (clean_at work j) (any_of (clean_at work) js) m in
        (tagged j empty.0 cleaned.0 r.0, dirties js empty.1 cleaned.1 r.1)

    -- "the first empty slot, else the first clean one, else the dirty one with the smallest tag, lowest slot among equals"
    pub taken_least : victim_of work (k ∷ ks) ≡ least_by form_at k ks
    unfolding victim_of
    taken_least = go (any_of (empty_at work) (k ∷ ks)) (any_of (clean_at work) (k ∷ ks)) refl refl
      where
        second : ℕ
        second = first_of (clean_at work) (k ∷ ks) (smallest_tag work (k ∷ ks))

        go : (t u : Bool) → any_of (empty_at work) (k ∷ ks) ≡ t → any_of (clean_at work) (k ∷ ks) ≡ u
            → first_of (empty_at work) (k ∷ ks) second ≡ least_by form_at k ks
        go true u e c =
            first_least form_at (empty_at work) 0 k ks second (every_map Ranked (AtLeast form_at (empty_at work) 0) empty_least (k ∷ ks) ranked) e
        go false true e c =
            first_none (empty_at work) (k ∷ ks) second e
            ∙ first_least form_at (clean_at work) clean k ks (smallest_tag work (k ∷ ks)) (cleans (k ∷ ks) e ranked) c
        go false false e c =
            first_none (empty_at work) (k ∷ ks) second e ∙ first_none (clean_at work) (k ∷ ks) (smallest_tag work (k ∷ ks)) c
            ∙ smallest_least k ks (dirties (k ∷ ks) e c ranked)

  pub whole : (k : ℕ) → Ranked k → form_at k % ways ≡ 0
  whole k (is_empty e c f) = rw f
  whole k (is_clean e c f) = rw f
  whole k (is_dirty e c f) = rw f (omega arith)

-- ---- the same in numbers: forms that are multiples of 4, and the place of each as its last digits

module _ (f : ℕ → ℕ) (k : ℕ) where
  pub record Names (x n : ℕ) : Type 0 where
    pub is : n ≡ f x + (x - k)
    pub from : k ≤ x
    pub to : x < k + ways
    pub multiple : f x % ways ≡ 0

  names_lower : (x y n m : ℕ) → Names x n → Names y m → x < y → Names (cond (leb (f x) (f y)) x y) (min n m)
  names_lower x y n m p q before = go (leb (f x) (f y)) refl
    where
      go : (t : Bool) → leb (f x) (f y) ≡ t → Names (cond t x y) (min n m)
      go true e =
          let l = leb-true (f x) (f y) e in
          let least : min n m ≡ n = omega (arith, p, q) in
          rw least p
      go false e =
          let l = leb-false (f x) (f y) e in
          let least : min n m ≡ m = omega (arith, p, q) in
          rw least q

  least_after : (x y : ℕ) (t : Bool) (z : ℕ) → z < x → z < y → z < cond t x y
  least_after x y true z p q = p
  least_after x y false z p q = q

  pub lowest_least : f k % ways ≡ 0 → f (k + 1) % ways ≡ 0 → f (k + 2) % ways ≡ 0 → f (k + 3) % ways ≡ 0
      → k + lowest_of (f k) (f (k + 1)) (f (k + 2)) (f (k + 3)) ≡ least_by f k ((k + 1) ∷ (k + 2) ∷ (k + 3) ∷ [])
  lowest_least a b c d =
      let first : Names k (f k) = record { is = omega arith; from = omega arith; to = omega arith; multiple = a } in
      let second : Names (k + 1) (f (k + 1) + 1) = record { is = omega arith; from = omega arith; to = omega arith; multiple = b } in
      let third : Names (k + 2) (f (k + 2) + 2) = record { is = omega arith; from = omega arith; to = omega arith; multiple = c } in
      let fourth : Names (k + 3) (f (k + 3) + 3) = record { is = omega arith; from = omega arith; to = omega arith; multiple = d } in
      let last = least_by f (k + 2) ((k + 3) ∷ []) in
      let rest = least_by f (k + 1) ((k + 2) ∷ (k + 3) ∷ []) in
      let m = min (f (k + 2) + 2) (f (k + 3) + 3) in
      let n = min (f (k + 1) + 1) m in
      let behind = least_after (k + 2) (k + 3) (leb (f (k + 2)) (f (k + 3))) in
      let two : Names last m = names_lower (k + 2) (k + 3) (f (k + 2) + 2) (f (k + 3) + 3) third fourth (omega arith) in
      let three : Names rest n = names_lower (k + 1) last (f (k + 1) + 1) m second two (behind (k + 1) (omega arith) (omega arith)) in
      let after : k < rest =
      least_after (k + 1) last (leb (f (k + 1)) (f last)) k (omega arith) (behind k (omega arith) (omega arith)) in
      let four = names_lower k rest (f k) n first three after in
      omega (arith, four)
