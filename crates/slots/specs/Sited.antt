-- What a pass over a set is told, and what its answer tells.
use Rattle.std.specs.Prelude.{ℕ, ◌+◌, ◌-◌, ◌*◌, ◌/◌, ◌≤◌, ◌≡◌, ◌≢◌, Bool, true, false, cond, List, length}
use Rattle.std.proofs.Common.{sym, ap, ◌∙◌, arith}
use Rattle.layout.specs.declared.Slot.{Slot}
use Rattle.layout.specs.Laws.{slot_laws}
use Rattle.layout.specs.Limits.{ways}
use Rattle.layout.specs.Memory.{slot_at, slot_words}
use Rattle.layout.specs.Words.{encode_slot, decode_slot}
use Rattle.slots.specs.declared.Bounds.{Bounds}
use Rattle.slots.specs.declared.sets.Site.TheVariants.{Improper, Held, Free}
use Rattle.slots.specs.Promises.{BoundsReady, TagsReady}
use Rattle.slots.specs.Laws.{set_below, spot_belongs}
use Rattle.slots.specs.Passes.{bounds_by, site_of, site_for}
use Rattle.slots.specs.Sets.{slots_from, places_of, proper_set, spot_of}
use Rattle.slots.specs.Slots.{set_of, dirty_slot}

-- the bounds of a call, told as the least tag and the number of tags
pub bounds_by_holds : (b : Bounds) (least tags : ℕ) → BoundsReady b → least ≡ encode_slot (dirty_slot 0 (b.persisted + 1)) → tags ≡ b.epoch - b.persisted
    → bounds_by b.slots b.lines least tags ≡ b
bounds_by_holds b least tags ready is few =
    let tag : (decode_slot least).tag ≡ b.persisted + 1 = least_tag b least ready is in
    let p : (decode_slot least).tag - 1 ≡ b.persisted = omega arith in
    let e : (decode_slot least).tag - 1 + tags ≡ b.epoch = omega (arith, ready.ahead) in
    λ i. record { lines = b.lines; slots = b.slots; persisted = p i; epoch = e i }
  where
    least_tag : (b : Bounds) (least : ℕ) → BoundsReady b → least ≡ encode_slot (dirty_slot 0 (b.persisted + 1)) → (decode_slot least).tag ≡ b.persisted + 1
    least_tag b least ready is =
        ap (λ (s : Slot). s.tag)
        (ap decode_slot is
        ∙ slot_laws.decode_encode (dirty_slot 0 (b.persisted + 1))
        (record { address = omega arith; tag = omega (arith, ready.ahead, ready.last); spare = omega arith }))

-- what the tests need of it
pub tags_ready : (b : Bounds) (least tags : ℕ) → BoundsReady b → least ≡ encode_slot (dirty_slot 0 (b.persisted + 1)) → tags ≡ b.epoch - b.persisted
    → TagsReady least tags
tags_ready b least tags ready is few =
    let back = slot_laws.decode_encode (dirty_slot 0 (b.persisted + 1))
    (record { address = omega arith; tag = omega (arith, ready.ahead, ready.last); spare = omega arith }) in
    let tag : (decode_slot least).tag ≡ b.persisted + 1 = ap (λ (s : Slot). s.tag) (ap decode_slot is ∙ back) in
    record {
      dirty = rw tag is;
      some = omega arith;
      few = omega (arith, ready.last);
    }

-- ---- the answer

module _ (b : Bounds) (work : List ℕ) (address : ℕ) where
  abbrev proper : Bool
  proper = proper_set b work (places_of b.slots address)

  pub site_improper : proper ≡ false → site_for b work address ≡ Improper
  unfolding site_for
  site_improper h = rw h

  pub site_proper : proper ≡ true → site_for b work address ≡ site_of (spot_of work b.slots address)
  unfolding site_for
  site_proper h = rw h

  pub site_somewhere : proper ≡ true → site_for b work address ≢ Improper
  site_somewhere h e = omega (arith, go (spot_of work b.slots address).held (sym (site_proper h) ∙ e))
    where
      go : (t : Bool) → cond t (Held (spot_of work b.slots address).slot) (Free (spot_of work b.slots address).slot) ≡ Improper → ◌≡◌ {A = ℕ} 0 1
      go true e = cc
      go false e = cc

-- the set of the slot that is found
module _ (work : List ℕ) (slots address : ℕ) (some : ways ≤ slots) where
  pub spot_set : slots_from ((spot_of work slots address).slot / ways * ways) ≡ places_of slots address
  unfolding places_of
  spot_set =
      let same : (spot_of work slots address).slot / ways * ways ≡ ways * set_of slots address = omega (arith, spot_belongs work slots address) in
      rw same

  pub spot_words : slot_words * slots ≤ length work → slot_at ((spot_of work slots address).slot / ways * ways + ways) ≤ length work
  spot_words words =
      let within = set_below slots address some in
      omega (arith, spot_belongs work slots address)
