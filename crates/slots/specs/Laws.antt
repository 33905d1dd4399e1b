-- Where an address is found, and what a proper slot names.
use Prim.Native.Nat.{ℕ, ◌+◌, ◌*◌, ◌/◌, ◌<◌, ◌≤◌}
use Rattle.std.specs.Prelude.{◌≡◌, true, false, cond, ◌&&◌, ◌||◌, List, [], ◌∷◌, ltb, leb, eqb, get_or}
use Rattle.std.proofs.Math.Path.{refl}
use Rattle.std.proofs.Common.{sym, mod-lt, arith}
use Rattle.std.proofs.Math.Bool.{Bool, not}
use Rattle.std.proofs.lemmas.Bool.{false≢true}
use borrow.Author.Tests.{eqb-true, eqb-false, eq-eqb, not-true}
use Rattle.base.specs.Cases.{either}
use Rattle.base.specs.Several.{all_of, any_of, first_of, all_head, all_tail, first_all, first_holds, none_all}
use Rattle.base.specs.Tests.{held, and_left}
use Rattle.layout.specs.Limits.{ways}
use Rattle.layout.specs.ZeroWord.{decode_zero}
use Rattle.layout.specs.Memory.{slot_in, slot_at}
use Rattle.layout.specs.Words.{decode_slot}
use Rattle.layout.specs.declared.Slot.{Slot}
use Rattle.slots.specs.declared.Bounds.{Bounds}
use Rattle.slots.specs.Promises.{Tagged}
use Rattle.slots.specs.Slots.{set_of, holds, proper_tag, proper_full, proper_slot, proper_at}
use Rattle.slots.specs.Sets.{slots_from, places_of, proper_set, empty_at, clean_at, smallest_tag, victim_of, spot_of}

-- ---- the slots of a set

pub set_below : (slots address : ℕ) → ways ≤ slots → set_of slots address < slots / ways
unfolding set_of
set_below slots address some = mod-lt address (omega arith)

module _ (slots address : ℕ) (p : ℕ → Bool) where
  -- what holds of the four places holds of each slot of the set
  pub place_all : all_of p (places_of slots address) ≡ true → (k : ℕ) → k / ways ≡ set_of slots address → p k ≡ true
  unfolding places_of
  place_all h k here = go (eqb k g) (eqb k (g + 1)) (eqb k (g + 2)) refl refl refl
    where
      g : ℕ
      g = ways * set_of slots address

      last : List ℕ
      last = (g + 3) ∷ []

      third : all_of p ((g + 2) ∷ last) ≡ true
      third = all_tail p (g + 1) ((g + 2) ∷ last) (all_tail p g ((g + 1) ∷ (g + 2) ∷ last) h)

      go : (t u v : Bool) → eqb k g ≡ t → eqb k (g + 1) ≡ u → eqb k (g + 2) ≡ v → p k ≡ true
      go true u v x y z = rw (eqb-true k g x) (all_head p g ((g + 1) ∷ (g + 2) ∷ last) h)
      go false true v x y z = rw (eqb-true k (g + 1) y) (all_head p (g + 1) ((g + 2) ∷ last) (all_tail p g ((g + 1) ∷ (g + 2) ∷ last) h))
      go false false true x y z = rw (eqb-true k (g + 2) z) (all_head p (g + 2) last third)
      go false false false x y z =
          let a : k ≡ g → ⊥ = eqb-false k g x in
          let b : k ≡ g + 1 → ⊥ = eqb-false k (g + 1) y in
          let c : k ≡ g + 2 → ⊥ = eqb-false k (g + 2) z in
          let e : k ≡ g + 3 = omega arith in
          rw e (all_head p (g + 3) [] (all_tail p (g + 2) last third))

  -- and the other way round
  pub all_places : ((k : ℕ) → k / ways ≡ set_of slots address → p k ≡ true) → all_of p (places_of slots address) ≡ true
  unfolding places_of
  all_places h =
      let g = ways * set_of slots address in
      rw (h g (omega arith), h (g + 1) (omega arith), h (g + 2) (omega arith), h (g + 3) (omega arith))

-- ---- the slot that an address takes is one of them

smallest_all : (work : List ℕ) (p : ℕ → Bool) (k : ℕ) (ks : List ℕ) → all_of p (k ∷ ks) ≡ true → p (smallest_tag work (k ∷ ks)) ≡ true
smallest_all work p k [] h = all_head p k [] h
smallest_all work p k (j ∷ ks) h =
    either (λ i. p i ≡ true) _ (all_head p k (j ∷ ks) h) (smallest_all work p j ks (all_tail p k (j ∷ ks) h))

taken_all : (work : List ℕ) (p : ℕ → Bool) (k : ℕ) (ks : List ℕ) → all_of p (k ∷ ks) ≡ true → p (victim_of work (k ∷ ks)) ≡ true
unfolding victim_of
taken_all work p k ks h =
    first_all (empty_at work) p (k ∷ ks) (first_of (clean_at work) (k ∷ ks) (smallest_tag work (k ∷ ks))) h
    (first_all (clean_at work) p (k ∷ ks) (smallest_tag work (k ∷ ks)) h (smallest_all work p k ks h))

module _ (work : List ℕ) (slots address : ℕ) where
  pub spot_all : (p : ℕ → Bool) → all_of p (places_of slots address) ≡ true → p (spot_of work slots address).slot ≡ true
  unfolding spot_of places_of
  spot_all p h =
      let g = ways * set_of slots address in
      first_all (λ k. holds work k address) p (slots_from g) (victim_of work (slots_from g)) h
      (taken_all work p g ((g + 1) ∷ (g + 2) ∷ (g + 3) ∷ []) h)

  pub spot_belongs : set_of slots address ≡ (spot_of work slots address).slot / ways
  spot_belongs =
      sym (eqb-true _ _ (spot_all (λ k. eqb (k / ways) (set_of slots address))
      (all_places slots address (λ k. eqb (k / ways) (set_of slots address)) (λ k e. eq-eqb (k / ways) (set_of slots address) e))))

  pub spot_below : ways ≤ slots → (spot_of work slots address).slot < slots
  spot_below some = let below = set_below slots address some in omega (arith, spot_belongs)

  -- it holds the address exactly where the address is held
  pub spot_holds : (spot_of work slots address).held ≡ holds work (spot_of work slots address).slot address
  unfolding spot_of
  spot_holds = go (any_of here (places_of slots address)) refl
    where
      here : ℕ → Bool
      here k = holds work k address

      go : (t : Bool) → any_of here (places_of slots address) ≡ t → t ≡ here (spot_of work slots address).slot
      go true e = sym (first_holds here (places_of slots address) (victim_of work (places_of slots address)) e)
      go false e = sym (not-true _ (spot_all (λ k. not (here k)) (none_all here (places_of slots address) e)))

  -- and no other slot of the set does where it is not
  pub spot_none : (spot_of work slots address).held ≡ false → (k : ℕ) → k / ways ≡ set_of slots address → holds work k address ≡ false
  unfolding spot_of
  spot_none e k there =
      not-true _ (place_all slots address (λ j. not (holds work j address)) (none_all (λ j. holds work j address) (places_of slots address) e) k there)

-- ---- what a proper slot names

pub proper_named : (b : Bounds) (work : List ℕ) (k : ℕ) → 1 ≤ b.lines → proper_at b work k ≡ true → (slot_in work k).address < b.lines
unfolding proper_at proper_slot proper_full
proper_named b work k some h = go (eqb (get_or work (slot_at k) 0) 0) refl h
  where
    full : proper_full b k (decode_slot (get_or work (slot_at k) 0)) ≡ true → (slot_in work k).address < b.lines
    full x = search held depth 12

    go : (t : Bool) → eqb (get_or work (slot_at k) 0) 0 ≡ t → t || proper_full b k (decode_slot (get_or work (slot_at k) 0)) ≡ true
        → (slot_in work k).address < b.lines
    go true e x = rw (eqb-true (get_or work (slot_at k) 0) 0 e, decode_zero) (omega arith)
    go false e x = full x

-- the tag of a dirty one
proper_tag_holds : (b : Bounds) (s : Slot) → proper_tag b s ≡ true
    → cond s.dirty (ltb b.persisted s.tag && leb s.tag b.epoch) (eqb s.tag 0) ≡ true
unfolding proper_tag
proper_tag_holds b s h = h

full_tagged : (b : Bounds) (k : ℕ) (s : Slot) → proper_full b k s ≡ true → Tagged b.persisted b.epoch s
unfolding proper_full
full_tagged b k s h =
    record { after = λ d. let t = dirty d in search held; until = λ d. let t = dirty d in search held }
  where
    dirty : s.dirty ≡ true → ltb b.persisted s.tag && leb s.tag b.epoch ≡ true
    dirty d = let t : proper_tag b s ≡ true = search held depth 12 in rw d at (proper_tag_holds b s t)

pub proper_tagged : (b : Bounds) (work : List ℕ) (k : ℕ) → proper_at b work k ≡ true → Tagged b.persisted b.epoch (slot_in work k)
unfolding proper_at proper_slot
proper_tagged b work k h = go (eqb (get_or work (slot_at k) 0) 0) refl h
  where
    go : (t : Bool) → eqb (get_or work (slot_at k) 0) 0 ≡ t → t || proper_full b k (slot_in work k) ≡ true
        → Tagged b.persisted b.epoch (slot_in work k)
    go true e x =
        rw (eqb-true (get_or work (slot_at k) 0) 0 e, decode_zero) record { after = λ d. absurd (false≢true d); until = λ d. absurd (false≢true d) }
    go false e x = full_tagged b k (slot_in work k) x

pub spot_tagged : (b : Bounds) (work : List ℕ) (address : ℕ) → proper_set b work (places_of b.slots address) ≡ true
    → Tagged b.persisted b.epoch (slot_in work (spot_of work b.slots address).slot)
unfolding proper_set
spot_tagged b work address h =
    proper_tagged b work (spot_of work b.slots address).slot (spot_all work b.slots address (proper_at b work) (and_left _ _ h))

pub spot_named : (b : Bounds) (work : List ℕ) (address : ℕ) → 1 ≤ b.lines → proper_set b work (places_of b.slots address) ≡ true
    → (slot_in work (spot_of work b.slots address).slot).address < b.lines
unfolding proper_set
spot_named b work address some h =
    proper_named b work (spot_of work b.slots address).slot some (spot_all work b.slots address (proper_at b work) (and_left _ _ h))
