-- Sets of slots: which slots a call visits, whether they are proper together, and where an address is held or put.
use Rattle.std.specs.Prelude.{ℕ, ◌+◌, ◌*◌, Bool, false, cond, ◌&&◌, ◌||◌, not, List, [], ◌∷◌, leb, eqb, get_or}
use Rattle.base.specs.Several.{all_of, any_of, first_of}
use Rattle.layout.specs.Limits.{ways}
use Rattle.layout.specs.Memory.{slot_in, slot_at}
use Rattle.slots.specs.declared.Bounds.{Bounds}
use Rattle.slots.specs.declared.Spot.{Spot}
use Rattle.slots.specs.Slots.{set_of, proper_at, holds, dirty_at}

-- "Set g is slots 4g to 4g + 3"
abbrev pub slots_from : (k : ℕ) → List ℕ
slots_from k = k ∷ (k + 1) ∷ (k + 2) ∷ (k + 3) ∷ []

-- the slots that an address belongs in
unfoldable pub places_of : (slots address : ℕ) → List ℕ
places_of slots address = slots_from (ways * set_of slots address)

-- "a line held twice in it is improper"
abbrev pub held_twice : (work visited : List ℕ) → Bool
held_twice work [] = false
held_twice work (k ∷ ks) = (slot_in work k).valid && any_of (λ j. holds work j (slot_in work k).address) ks || held_twice work ks

-- "6 slot: the slot visited is not proper". Request 6/13: "Load, store and evict now test the whole set by 6 .. The scan keeps visiting and testing
-- single slots."
unfoldable pub proper_set : Bounds → (work visited : List ℕ) → Bool
proper_set b work visited = all_of (proper_at b work) visited && not (held_twice work visited)

-- "the dirty one with the smallest tag, lowest slot among equals"
abbrev pub smallest_tag : (work visited : List ℕ) → ℕ
smallest_tag work [] = 0
smallest_tag work (k ∷ []) = k
smallest_tag work (k ∷ j ∷ ks) =
    let rest = smallest_tag work (j ∷ ks) in cond (leb (slot_in work k).tag (slot_in work rest).tag) k rest

-- "A line not held takes the first empty slot, else the first clean one, else the dirty one .."
abbrev pub empty_at : List ℕ → (k : ℕ) → Bool
empty_at work k = eqb (get_or work (slot_at k) 0) 0

abbrev pub clean_at : List ℕ → (k : ℕ) → Bool
clean_at work k = (slot_in work k).valid && not (dirty_at work k)

unfoldable pub victim_of : (work visited : List ℕ) → ℕ
victim_of work visited = first_of (empty_at work) visited (first_of (clean_at work) visited (smallest_tag work visited))

-- the slot that holds the line at an address, or else takes it
unfoldable pub spot_of : List ℕ → (slots address : ℕ) → Spot
spot_of work slots address =
    let places = places_of slots address in
    let here : ℕ → Bool = λ k. holds work k address in
    record { slot = first_of here places (victim_of work places); held = any_of here places }
