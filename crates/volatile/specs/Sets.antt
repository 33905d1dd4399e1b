-- Sets of slots, on a work memory with each line in one slot at most: those that a call visits are proper together, and the slot that an address
-- takes is the only one that may hold it.
use Prim.Native.Nat.{ℕ, ◌+◌, ◌<◌, ◌≤◌}
use Rattle.std.specs.Prelude.{◌≡◌, Bool, true, false, ◌&&◌, ◌||◌}
use Rattle.std.proofs.Math.Path.{refl}
use Rattle.std.proofs.Common.{sym, ◌∙◌, arith, eq-eqb}
use mathlib.Core.List.{List, [], ◌∷◌}
use Rattle.base.specs.Every.{Every, every_map}
use Rattle.base.specs.Several.{any_of, every_all, every_none}
use Rattle.base.specs.Tests.{and_true}
use Rattle.layout.specs.Limits.{ways}
use Rattle.layout.specs.Memory.{slot_in}
use Rattle.slots.specs.declared.Bounds.{Bounds}
use Rattle.slots.specs.Laws.{set_below, spot_below, spot_holds, spot_none}
use Rattle.slots.specs.Sets.{places_of, held_twice, proper_set, spot_of}
use Rattle.slots.specs.Slots.{proper_at, holds}
use Rattle.volatile.specs.Cache.{Alone}
use Rattle.volatile.specs.Slotted.{Slotted, slot_home}

-- slots in ascending order, none below the first
abbrev pub Ascending : (slots first : ℕ) → List ℕ → Type 0
Ascending slots first [] = Unit
Ascending slots first (k ∷ ks) = (first ≤ k) × (k < slots) × Ascending slots (k + 1) ks

abbrev Within : (slots first k : ℕ) → Type 0
Within slots first k = (first ≤ k) × (k < slots)

ascending_within : (slots first : ℕ) (ks : List ℕ) → Ascending slots first ks → Every (Within slots first) ks
ascending_within slots first [] h = tt
ascending_within slots first (k ∷ ks) h =
    let rest = ascending_within slots (k + 1) ks h.2 in
    ((h.0, h.1), every_map (Within slots (k + 1)) (Within slots first) (λ j w. (omega (arith, h.0, w.0), w.1)) ks rest)

pub ascending_below : (slots : ℕ) (ks : List ℕ) → Ascending slots 0 ks → Every (λ k. k < slots) ks
ascending_below slots ks h = every_map (Within slots 0) (λ k. k < slots) (λ k w. w.1) ks (ascending_within slots 0 ks h)

pub places_ascending : (slots address : ℕ) → ways ≤ slots → Ascending slots 0 (places_of slots address)
unfolding places_of
places_ascending slots address some =
    let below = set_below slots address some in
    (omega arith, omega arith, (omega arith, omega arith, (omega arith, omega arith, (omega arith, omega arith, tt))))

module _ {b : Bounds} {work : List ℕ} (slotted : Slotted b work) where
  -- ---- "6 slot", of the slots that a call visits

  not_twice : (first : ℕ) (ks : List ℕ) → Ascending b.slots first ks → held_twice work ks ≡ false
  unfolding holds
  not_twice first [] h = refl
  not_twice first (k ∷ ks) h = rw (not_twice (k + 1) ks h.2) (go (slot_in work k).valid refl)
    where
      address : ℕ
      address = (slot_in work k).address

      go : (t : Bool) → (slot_in work k).valid ≡ t → t && any_of (λ j. holds work j address) ks || false ≡ false
      go true e =
          let here : holds work k address ≡ true = rw (e, eq-eqb address address refl) in
          let alone = slotted.once k address h.1 here in
          rw (every_none (λ j. holds work j address) (Within b.slots (k + 1)) (λ j w. alone j w.1 (omega (arith, w.0))) ks
          (ascending_within b.slots (k + 1) ks h.2))
      go false e = refl

  pub set_proper : (ks : List ℕ) → Ascending b.slots 0 ks → proper_set b work ks ≡ true
  unfolding proper_set
  set_proper ks h =
      and_true _ _ (every_all (proper_at b work) (λ k. k < b.slots) slotted.proper ks (ascending_below b.slots ks h)) (rw (not_twice 0 ks h))

  -- ---- the slot that an address takes

  pub spot_alone : (address : ℕ) → Alone work b.slots (spot_of work b.slots address).slot address
  spot_alone address = go (spot_of work b.slots address).held refl
    where
      -- a slot that holds it is one of the set
      none : (spot_of work b.slots address).held ≡ false → (j : ℕ) → j < b.slots → (t : Bool) → holds work j address ≡ t → t ≡ false
      none e j below true h = sym h ∙ spot_none work b.slots address e j (sym (slot_home slotted j address below h).home)
      none e j below false h = refl

      go : (t : Bool) → (spot_of work b.slots address).held ≡ t → Alone work b.slots (spot_of work b.slots address).slot address
      go true e =
          slotted.once (spot_of work b.slots address).slot address (spot_below work b.slots address slotted.sets.some)
          (sym (spot_holds work b.slots address) ∙ e)
      go false e = λ j below away. none e j below (holds work j address) refl
