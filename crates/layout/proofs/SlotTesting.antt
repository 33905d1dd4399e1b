-- The tests on a slot word as it is: what its fields come to as one number.
use Rattle.std.proofs.Common.{◌≡◌, ℕ, ◌+◌, ◌-◌, ◌*◌, ◌/◌, ◌%◌, ◌^◌, ◌<◌, ◌≤◌, Bool, true, false, cond, ◌&&◌, eqb, ltb, leb, sym, refl, ◌∙◌, arith, w64, Fits, ltb-true, lt-ltb, eq-eqb, le-leb}
use mathlib.Core.Bool.{false≢true}
use Rattle.base.specs.Tests.{held, hold_together}
use Rattle.layout.specs.declared.Slot.{Slot}
use Rattle.layout.specs.Limits.{word_bits, address_bits, epoch_bits, spare_bits}
use Rattle.layout.specs.Fields.{width, pack, unpack, encode, decode}
use Rattle.layout.proofs.Testing.{wrapped}
use Rattle.layout.specs.Laws.{slot_laws}
use Rattle.layout.specs.Words.{bit, SlotFits, decode_slot}
use Rattle.layout.specs.SlotTests.{AddressOf, slot_form, IsDirtyForm, is_line}

abbrev address_unit : ℕ
address_unit = 2 ^ (epoch_bits + spare_bits)

pub slot_address : (w : ℕ) → AddressOf (decode_slot w) (w / address_unit % 2 ^ address_bits)
unfolding decode unpack width
slot_address w = record { is = refl; below = omega arith }

-- a word less its address is its form
pub slot_form_holds : (w : ℕ) → w < 2 ^ word_bits → w - w / address_unit % 2 ^ address_bits * address_unit ≡ slot_form (decode_slot w)
unfolding encode pack width
slot_form_holds w h =
    let whole = slot_laws.encode_decode w h in
    omega (arith, (slot_address w).is)

-- ---- the one comparison

-- a number with its spare bits moved to the top
abbrev turned : ℕ → ℕ
turned more = more / 2 ^ spare_bits + more % 2 ^ spare_bits * 2 ^ (word_bits - spare_bits)

pieces_fit : (high low : ℕ) → high < 2 ^ (word_bits - spare_bits) → low < 2 ^ spare_bits → high + low * 2 ^ (word_bits - spare_bits) < 2 ^ word_bits
pieces_fit high low h l = omega arith

turned_below : (more : ℕ) → more < 2 ^ word_bits → turned more < 2 ^ word_bits
turned_below more h = pieces_fit (more / 2 ^ spare_bits) (more % 2 ^ spare_bits) (omega arith) (omega arith)

pieces_few : (high low tags : ℕ) → high + low * 2 ^ (word_bits - spare_bits) < tags → tags ≤ 2 ^ epoch_bits → (low ≡ 0) × (high < tags)
pieces_few high low tags h few = omega arith

-- few: then none of them is set
turned_few : (more tags : ℕ) → turned more < tags → tags ≤ 2 ^ epoch_bits → (more % 2 ^ spare_bits ≡ 0) × (more / 2 ^ spare_bits < tags)
turned_few more tags h few = pieces_few (more / 2 ^ spare_bits) (more % 2 ^ spare_bits) tags h few

high_below : (more tags : ℕ) → more / 2 ^ spare_bits < tags → tags ≤ 2 ^ epoch_bits → more < 2 ^ (epoch_bits + spare_bits)
high_below more tags h few = omega arith

-- a dirty form less another, where that does not wrap: the tags' difference, and the spare bits
abbrev both_flags : ℕ
both_flags = 2 ^ 63 + 2 ^ 62

behind : (more t sp t0 : ℕ) → t < 2 ^ epoch_bits → sp < 2 ^ spare_bits → t0 < 2 ^ epoch_bits → more < 2 ^ (epoch_bits + spare_bits)
    → (more + (both_flags + t0 * 2 ^ spare_bits)) % 2 ^ word_bits ≡ both_flags + t * 2 ^ spare_bits + sp → more + t0 * 2 ^ spare_bits ≡ t * 2 ^ spare_bits + sp
behind more t sp t0 a b c d e = omega arith

behind_tags : (more t sp t0 tags : ℕ) → sp < 2 ^ spare_bits → more + t0 * 2 ^ spare_bits ≡ t * 2 ^ spare_bits + sp → more % 2 ^ spare_bits ≡ 0
    → more / 2 ^ spare_bits < tags → (sp ≡ 0) × ((t0 ≤ t) × (t < t0 + tags))
behind_tags more t sp t0 tags b e z few = omega arith

ahead : (more t sp t0 : ℕ) → t < 2 ^ epoch_bits → sp ≡ 0 → t0 ≤ t → more < 2 ^ word_bits
    → (more + (both_flags + t0 * 2 ^ spare_bits)) % 2 ^ word_bits ≡ both_flags + t * 2 ^ spare_bits + sp → more ≡ (t - t0) * 2 ^ spare_bits
ahead more t sp t0 a b c d e = omega arith

turned_whole : (more n : ℕ) → more ≡ n * 2 ^ spare_bits → turned more ≡ n
turned_whole more n e = let low : more % 2 ^ spare_bits ≡ 0 = omega arith in rw low (omega arith)

ahead_few : (more t t0 tags : ℕ) → more ≡ (t - t0) * 2 ^ spare_bits → t0 ≤ t → t < t0 + tags → turned more < tags
ahead_few more t t0 tags e from to = rw (turned_whole more (t - t0) e) (omega arith)

abbrev form_as : (valid dirty : Bool) → (tag spare : ℕ) → ℕ
form_as valid dirty tag spare = bit valid * 2 ^ 63 + bit dirty * 2 ^ 62 + tag * 2 ^ spare_bits + spare

module _ (s : Slot) (fits : SlotFits s) where
  form_as_holds : slot_form s ≡ form_as s.valid s.dirty s.tag s.spare
  unfolding encode pack width
  form_as_holds = omega arith

  module _ (least tags : ℕ) where
    abbrev line : (valid dirty : Bool) → Bool
    line valid dirty =
        valid && eqb s.spare 0 && cond dirty (leb least s.tag && ltb s.tag (least + tags)) (eqb s.tag 0)

    clean_line : (valid dirty : Bool) → form_as valid dirty s.tag s.spare ≡ 2 ^ 63 → true ≡ line valid dirty
    clean_line true true h = absurd (omega (arith, fits.tag, fits.spare))
    clean_line true false h = rw (eq-eqb s.spare 0 (omega arith), eq-eqb s.tag 0 (omega arith))
    clean_line false true h = absurd (omega (arith, fits.tag, fits.spare))
    clean_line false false h = absurd (omega (arith, fits.tag, fits.spare))

    module _ (more : ℕ) (below : more < 2 ^ word_bits) (first : least < 2 ^ epoch_bits) (few : tags ≤ 2 ^ epoch_bits) where
      low : turned more < tags → more < 2 ^ (epoch_bits + spare_bits)
      low less = high_below more tags (turned_few more tags less few).1 few

      never : (turned more < tags → ⊥) → ltb (turned more) tags ≡ false
      never beyond = hold_together _ _ (λ t. absurd (beyond (ltb-true (turned more) tags t))) (λ t. absurd (false≢true t))

      dirty_line : (valid dirty : Bool) → (more + (both_flags + least * 2 ^ spare_bits)) % 2 ^ word_bits ≡ form_as valid dirty s.tag s.spare
          → (form_as valid dirty s.tag s.spare ≡ 2 ^ 63 → ⊥) → ltb (turned more) tags ≡ line valid dirty
      dirty_line true true l other =
          hold_together _ _
          (λ t.
          let less : turned more < tags = ltb-true (turned more) tags t in
          let pieces = turned_few more tags less few in
          let found = behind_tags more s.tag s.spare least tags fits.spare
          (behind more s.tag s.spare least fits.tag fits.spare first (low less) l) pieces.0 pieces.1 in
          rw (eq-eqb s.spare 0 found.0, le-leb least s.tag found.1.0, lt-ltb s.tag (least + tags) found.1.1))
          (λ t.
          let none : s.spare ≡ 0 = search held depth 12 in
          let from : least ≤ s.tag = search held depth 12 in
          let to : s.tag < least + tags = search held depth 12 in
          lt-ltb (turned more) tags
          (ahead_few more s.tag least tags (ahead more s.tag s.spare least fits.tag none from below l) from to))
      dirty_line true false l other =
          hold_together _ _
          (λ t. let less : turned more < tags = ltb-true (turned more) tags t in absurd (omega (arith, low less, fits.tag, fits.spare)))
          (λ t.
          let none : s.spare ≡ 0 = search held depth 12 in
          let zero : s.tag ≡ 0 = search held depth 12 in
          absurd (other (omega arith)))
      dirty_line false true l other = never (λ less. omega (arith, low less, fits.tag, fits.spare))
      dirty_line false false l other = never (λ less. omega (arith, low less, fits.tag, fits.spare))

module _ (w least tags : ℕ) where
  abbrev slot : Slot
  slot = decode_slot w

  pub line_clean : (form : ℕ) → form ≡ slot_form slot → form ≡ 2 ^ 63 → true ≡ is_line (decode_slot least).tag tags slot
  line_clean form is e =
      let fits = slot_laws.decoded_fits w in
      clean_line slot fits (decode_slot least).tag tags slot.valid slot.dirty (sym (form_as_holds slot fits) ∙ sym is ∙ e)

  module _ (form : ℕ) (is : form ≡ slot_form slot) (form_fits : form < 2 ^ word_bits) (least_fits : least < 2 ^ word_bits) where
    abbrev more : ℕ
    more = wrapped form least

    below : more < 2 ^ word_bits
    below = omega arith

    l : (more + least) % 2 ^ word_bits ≡ form
    l = omega (arith, form_fits, least_fits)

    pub turned_fits : Fits w64 (turned more)
    turned_fits = record { fits = turned_below more below }

    pub line_dirty : IsDirtyForm least → tags ≤ 2 ^ epoch_bits → (form ≡ 2 ^ 63 → ⊥)
        → ltb (turned more) tags ≡ is_line (decode_slot least).tag tags slot
    unfolding encode pack width
    line_dirty dirty few other =
        let fits = slot_laws.decoded_fits w in
        let first = (slot_laws.decoded_fits least).tag in
        let same = form_as_holds slot fits in
        dirty_line slot fits (decode_slot least).tag tags more below first few slot.valid slot.dirty
        (omega arith) (λ e. other (omega arith))
