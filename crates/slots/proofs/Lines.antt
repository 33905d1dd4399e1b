-- One slot: what the tests of its word tell.
use Prim.Native.Nat.{ℕ, ◌+◌, ◌-◌, ◌*◌, ◌/◌, ◌%◌, ◌^◌, ◌<◌, ◌≤◌}
use mathlib.Core.Path.{◌≡◌, refl, sym, ap, ◌∙◌}
use mathlib.Core.Bool.{Bool, true, false, not, ◌&&◌, ◌||◌, false≢true}
use mathlib.Core.List.{List}
use mir.Syntax.{w64}
use mir.Val.{Fits}
use native.Mathlib.Nat.{mod-lt}
use native.Mathlib.Omega.{arith}
use borrow.Author.Tests.{ltb-true, leb-true, lt-ltb, le-ltb, le-leb, eq-eqb, ne_eqb, not-true, not-false}
use lib.Dec.{ltb, leb, eqb}
use lib.ListN.{get_or}
use Rattle.base.specs.Tests.{hold_together}
use Rattle.layout.specs.declared.Slot.{Slot}
use Rattle.layout.specs.Limits.{epoch_bits, ways}
use Rattle.layout.specs.Memory.{slot_at}
use Rattle.layout.specs.SlotTests.{AddressOf, slot_form, IsDirtyForm, is_line}
use Rattle.layout.specs.Words.{encode_slot, decode_slot}
use Rattle.layout.specs.ZeroWord.{decode_zero}
use Rattle.slots.specs.declared.Bounds.{Bounds}
use Rattle.slots.specs.declared.sets.Line.{Line}
use Rattle.slots.specs.declared.sets.Sets.{Sets}
use Rattle.slots.specs.Promises.{BoundsReady, TagsReady}
use Rattle.slots.specs.Passes.{near, fraction_of, bounds_by, line_of, proper_in, lineless, LinesReady, LineIn}
use Rattle.slots.specs.Sited.{bounds_by_holds, tags_ready}
use Rattle.slots.specs.Slots.{set_of, proper_tag, proper_full, proper_slot, proper_at, dirty_slot}
use Rattle.slots.proofs.Dividing.{fraction_near, away_multiple}

-- ---- the tests in another order

-- "address mod S its slot" last
set_last : (v p l k t : Bool) → v && p && l && k && t ≡ (v && p && t && l) && k
set_last true true true true true = refl
set_last true true true true false = refl
set_last true true true false true = refl
set_last true true true false false = refl
set_last true true false k true = refl
set_last true true false k false = refl
set_last true false l k t = refl
set_last false p l k t = refl

pub proper_in_holds : (b : Bounds) (k word : ℕ) → proper_slot b k word ≡ proper_in b (k / ways) word
unfolding proper_slot proper_full
proper_in_holds b k word =
    let s = decode_slot word in
    ap (λ (t : Bool). eqb word 0 || t)
    (set_last s.valid (eqb s.spare 0) (ltb s.address b.lines) (eqb (set_of b.slots s.address) (k / ways)) (proper_tag b s))

-- ---- the tags, from the least on

from_least : (least t : ℕ) → 1 ≤ least → leb least t ≡ ltb (least - 1) t
from_least least t some =
    hold_together _ _
    (λ h. let l = leb-true least t h in lt-ltb (least - 1) t (omega arith))
    (λ h. let l = ltb-true (least - 1) t h in le-leb least t (omega arith))

to_last : (least tags t : ℕ) → 1 ≤ least → ltb t (least + tags) ≡ leb t (least - 1 + tags)
to_last least tags t some =
    hold_together _ _
    (λ h. let l = ltb-true t (least + tags) h in le-leb t (least - 1 + tags) (omega arith))
    (λ h. let l = leb-true t (least - 1 + tags) h in lt-ltb t (least + tags) (omega arith))

module _ (slots lines least tags : ℕ) (ready : TagsReady least tags) where
  abbrev b : Bounds
  b = bounds_by slots lines least tags

  tag_is : (s : Slot) → is_line (decode_slot least).tag tags s ≡ s.valid && eqb s.spare 0 && proper_tag b s
  unfolding proper_tag
  tag_is s =
      rw (from_least (decode_slot least).tag s.tag ready.some, to_last (decode_slot least).tag tags s.tag ready.some)

  line_is : (s : Slot) → line_of b s ≡ is_line (decode_slot least).tag tags s && ltb s.address lines
  line_is s = ap (λ (t : Bool). t && ltb s.address lines) (sym (tag_is s))

pub least_dirty : (b : Bounds) (least : ℕ) → BoundsReady b → least ≡ encode_slot (dirty_slot 0 (b.persisted + 1)) → IsDirtyForm least
least_dirty b least ready is = (tags_ready b least (b.epoch - b.persisted) ready is refl).dirty

pub tags_few : (b : Bounds) → BoundsReady b → b.epoch - b.persisted ≤ 2 ^ epoch_bits
tags_few b ready = omega (arith, ready.last)

-- ---- the slot at the scan's cursor: one law for each way out

module _ (b : Bounds) (work : List ℕ) (k word : ℕ) (here : word ≡ get_or work (slot_at k) 0) where
  pub at_empty : word ≡ 0 → true ≡ proper_at b work k
  unfolding proper_at
  at_empty h = sym (rw (← here) (proper_in_holds b k word ∙ rw (eq-eqb word 0 h)))

  module _ (full : word ≡ 0 → ⊥) (least tags : ℕ) (ready : BoundsReady b) (is : least ≡ encode_slot (dirty_slot 0 (b.persisted + 1)))
      (few : tags ≡ b.epoch - b.persisted) (t : Bool) (line : t ≡ is_line (decode_slot least).tag tags (decode_slot word)) where
    split : (u : Bool) → u ≡ (t && ltb (decode_slot word).address b.lines) && eqb (set_of b.slots (decode_slot word).address) (k / ways)
        → u ≡ proper_at b work k
    unfolding proper_at
    split u e =
        let same : line_of b (decode_slot word) ≡ t && ltb (decode_slot word).address b.lines =
        rw (bounds_by_holds b least tags ready is few) at
        (line_is b.slots b.lines least tags (tags_ready b least tags ready is few) (decode_slot word)) ∙ rw line in
        e ∙ sym (rw (← here) (proper_in_holds b k word ∙ rw (ne_eqb word 0 full, same)))

    pub at_no_line : not t ≡ true → false ≡ proper_at b work k
    at_no_line h = split false (rw (not-true t h))

    module _ (proper : not t ≡ false) (address : ℕ) (named : AddressOf (decode_slot word) address) where
      pub at_outside : b.lines ≤ address → false ≡ proper_at b work k
      at_outside h = split false (sym (rw (not-false t proper, ← named.is, le-ltb address b.lines h)))

      pub at_set : address < b.lines → eqb (address % (b.slots / ways)) (k / ways) ≡ proper_at b work k
      unfolding set_of
      at_set h = split _ (sym (rw (not-false t proper, ← named.is, lt-ltb address b.lines h)))

-- ---- a slot of a set: one law for each way out

module _ (word lines least tags : ℕ) (s : Sets) (away way form : ℕ) (ready : LinesReady least tags s away) (t : Bool) (is : form ≡ slot_form (decode_slot word))
    (line : t ≡ is_line (decode_slot least).tag tags (decode_slot word)) where
  abbrev bounds : Bounds
  bounds = bounds_by (ways * s.count) lines least tags

  abbrev Found : Line → Type 0
  Found = LineIn bounds (s.count - away) way word

  in_empty : word ≡ 0 → proper_in bounds (s.count - away) word ≡ true
  in_empty h = rw (eq-eqb word 0 h)

  in_full : (word ≡ 0 → ⊥) → proper_in bounds (s.count - away) word
      ≡ (t && ltb (decode_slot word).address lines) && eqb (set_of (ways * s.count) (decode_slot word).address) (s.count - away)
  in_full n = rw (ne_eqb word 0 n, line_is (ways * s.count) lines least tags ready.tags_ready (decode_slot word), ← line)

  pub line_empty : (r : Line) → not t ≡ true → word ≡ 0 → r ≡ lineless way 0 form → Found r
  line_empty r h z e = rw e record { beyond = sym (in_empty z); named = λ p. rw (eq-eqb word 0 z); form = is }

  improper : (r : Line) → proper_in bounds (s.count - away) word ≡ false → r ≡ lineless way near form → Found r
  improper r h e = rw e record { beyond = sym h; named = λ p. absurd (false≢true (sym h ∙ p)); form = is }

  pub line_none : (r : Line) → not t ≡ true → (word ≡ 0 → ⊥) → r ≡ lineless way near form → Found r
  line_none r h n e = improper r (in_full n ∙ rw (not-true t h)) e

  module _ (proper : not t ≡ false) (address : ℕ) (named : AddressOf (decode_slot word) address) where
    -- the word of an empty slot has no line
    full : word ≡ 0 → ⊥
    full z = false≢true (sym (line ∙ rw (z, decode_zero)) ∙ not-false t proper)

    pub line_outside : (r : Line) → lines ≤ address → r ≡ lineless way near form → Found r
    line_outside r h e = improper r (in_full full ∙ rw (not-false t proper, ← named.is, le-ltb address lines h)) e

    in_set : eqb (set_of (ways * s.count) address) (s.count - away) ≡ eqb (address % s.count) (s.count - away)
    unfolding set_of
    in_set = let same : ways * s.count / ways ≡ s.count = omega arith in rw same

    pub distance_below : address + away < near
    distance_below = omega (arith, named.below, ready.most, ready.divides.most)

    pub line_full : (beyond : ℕ) → address < lines → beyond ≡ fraction_of s (address + away)
        → Found (record { address = address; beyond = beyond; form = form })
    line_full beyond h e =
        let told : proper_in bounds (s.count - away) word ≡ eqb (address % s.count) (s.count - away) =
        in_full full ∙ rw (not-false t proper, ← named.is, lt-ltb address lines h, in_set) in
        record {
          beyond =
              rw (e, told) (fraction_near s ready.divides (address + away) distance_below ∙ away_multiple s ready.divides address away ready.some ready.most);
          named = λ p. named.is ∙ sym (rw (ne_eqb word 0 full));
          form = is;
        }

-- the set that an address of 16 bits belongs in, as a number
pub set_fits : (b : Bounds) (address : ℕ) → BoundsReady b → Fits w64 (address % (b.slots / ways))
set_fits b address ready =
    let some : 1 ≤ b.slots / ways = omega (arith, ready.sets.some) in
    record { fits = omega (arith, mod-lt address some, ready.sets.most) }
