-- An entry's place in the ring, the step from one to the next, and the two stretches in which the entries stand one behind the other.
use Prim.Native.Nat.{ℕ, ◌+◌, ◌-◌, ◌*◌, ◌%◌, ◌<◌, ◌≤◌}
use mathlib.Core.Path.{◌≡◌, refl, sym, ap, ◌∙◌}
use mathlib.Core.Bool.{Bool, true, false, cond}
use native.Mathlib.Nat.{mod-lt, mod-eq_of_lt, mod_self, suc-mod, add-mod_right, add-mul-mod_self_right}
use native.Mathlib.Numerals.{add-one}
use native.Mathlib.Omega.{arith}
use borrow.Author.Tests.{leb-true, leb-false}
use lib.Dec.{leb}
use Rattle.undo.specs.declared.LogState.{LogState}
use Rattle.undo.specs.Log.{Sound, Placed, place_of}
use Rattle.undo.specs.Ring.{next_place}

-- start + i is below 2L: the remainder by L is the number itself, or the number less L
module _ (u : LogState) (i : ℕ) (sound : Sound u) (within : i ≤ u.entries) where
  pub placed_low : u.control.start + i < u.entries → Placed u i (2 * (u.control.start + i))
  unfolding place_of
  placed_low h = record { is = ap (◌*◌ 2) (sym (mod-eq_of_lt h)); below = omega arith }

  pub placed_high : u.entries ≤ u.control.start + i → Placed u i (2 * (u.control.start + i - u.entries))
  unfolding place_of
  placed_high h =
      let k : u.control.start + i - u.entries < u.entries = omega arith in
      let e : u.control.start + i ≡ u.control.start + i - u.entries + 1 * u.entries = omega arith in
      record {
        is = ap (◌*◌ 2) (sym (mod-eq_of_lt k) ∙ sym (ap (λ (x : ℕ). x % u.entries) e ∙ add-mul-mod_self_right _ 1 u.entries));
        below = omega arith;
      }

-- the remainder of the number after x
turn_within : (x n : ℕ) → x % n + 1 < n → (x + 1) % n ≡ x % n + 1
turn_within x n h = ap (λ (y : ℕ). y % n) (add-one x) ∙ suc-mod x n ∙ ap (λ (y : ℕ). y % n) (sym (add-one (x % n))) ∙ mod-eq_of_lt h

turn_around : (x n : ℕ) → x % n + 1 ≡ n → (x + 1) % n ≡ 0
turn_around x n h = ap (λ (y : ℕ). y % n) (add-one x) ∙ suc-mod x n ∙ ap (λ (y : ℕ). y % n) (sym (add-one (x % n)) ∙ h) ∙ mod_self n

-- the step to the next
module _ (x n : ℕ) (some : 0 < n) where
  turn_next : 2 * ((x + 1) % n) ≡ next_place (2 * n) (2 * (x % n))
  unfolding next_place
  turn_next = go (leb (2 * n) (2 * (x % n) + 2)) refl
    where
      go : (t : Bool) → leb (2 * n) (2 * (x % n) + 2) ≡ t → 2 * ((x + 1) % n) ≡ cond t 0 (2 * (x % n) + 2)
      go true e =
          let h : 2 * n ≤ 2 * (x % n) + 2 = leb-true (2 * n) (2 * (x % n) + 2) e in
          let z : (x + 1) % n ≡ 0 = turn_around x n (omega (arith, mod-lt x some)) in
          omega arith
      go false e =
          let h : 2 * (x % n) + 2 < 2 * n = leb-false (2 * n) (2 * (x % n) + 2) e in
          let z : (x + 1) % n ≡ x % n + 1 = turn_within x n (omega arith) in
          omega arith

module _ (u : LogState) (sound : Sound u) where
  pub place_below : (i : ℕ) → place_of u i + 1 < 2 * u.entries
  unfolding place_of
  place_below i = omega (arith, mod-lt (u.control.start + i) sound.some)

  place_next : (i : ℕ) → place_of u (i + 1) ≡ next_place (2 * u.entries) (place_of u i)
  unfolding place_of
  place_next i =
      let e : u.control.start + (i + 1) ≡ u.control.start + i + 1 = omega arith in
      ap (λ (x : ℕ). 2 * (x % u.entries)) e ∙ turn_next (u.control.start + i) u.entries sound.some

  placed_at : (i r : ℕ) → r ≡ place_of u i → Placed u i r
  placed_at i r h = record { is = h; below = omega (arith, place_below i) }

  pub placed_next : (i at r : ℕ) → Placed u i at → r ≡ next_place (2 * u.entries) at → Placed u (i + 1) r
  placed_next i at r p h = placed_at (i + 1) r (h ∙ ap (next_place (2 * u.entries)) p.is ∙ sym (place_next i))

-- the log's entries before the ring's end, and from its beginning on
module _ (u : LogState) (sound : Sound u) where
  pub straight_place : (i : ℕ) → u.control.start + i < u.entries → place_of u i ≡ 2 * u.control.start + 2 * i
  unfolding place_of
  straight_place i h = rw (mod-eq_of_lt h) (omega arith)

  pub turned_place : (i : ℕ) → i < u.entries → place_of u (u.entries - u.control.start + i) ≡ 0 + 2 * i
  unfolding place_of
  turned_place i h =
      let round : u.control.start + (u.entries - u.control.start + i) ≡ i + u.entries = omega (arith, sound.begin) in
      let e : (u.control.start + (u.entries - u.control.start + i)) % u.entries ≡ i =
      ap (λ (n : ℕ). n % u.entries) round ∙ add-mod_right i u.entries ∙ mod-eq_of_lt h in
      rw e (omega arith)
