-- Four slots: what the pass over a set finds.
use Prim.Native.Nat.{ℕ, min, ◌+◌, ◌-◌, ◌*◌, ◌/◌, ◌%◌, ◌^◌, ◌<◌, ◌≤◌}
use mathlib.Core.Path.{◌≡◌, refl, sym, ap, ◌∙◌}
use mathlib.Core.Bool.{Bool, true, false, not, cond, ◌&&◌, ◌||◌}
use mathlib.Core.List.{List, [], ◌∷◌}
use native.Mathlib.Omega.{arith}
use borrow.Author.Tests.{ltb-true, lt-ltb, le-ltb, eq-eqb, ne_eqb, eqb-true, eqb-false}
use lib.Bits.{bit_or, or_lt}
use lib.Dec.{ltb, leb, eqb}
use lib.ListN.{length, get_or}
use Rattle.base.specs.Several.{all_of, any_of, first_of, all_head, all_tail}
use Rattle.base.specs.Bits.{left_or, right_or}
use Rattle.base.specs.Tests.{held, hold_together, and_left}
use Rattle.layout.specs.declared.Slot.{Slot}
use Rattle.layout.specs.Laws.{slot_laws}
use Rattle.layout.specs.Limits.{ways, most_slots, spare_bits}
use Rattle.layout.specs.Memory.{slot_at, slot_in}
use Rattle.layout.specs.SlotTests.{slot_form}
use Rattle.layout.specs.Fields.{width, pack, encode}
use Rattle.layout.specs.Words.{bit, SlotFits, decode_slot}
use Rattle.layout.specs.ZeroWord.{empty_slot, encode_empty, decode_zero}
use Rattle.slots.specs.declared.Bounds.{Bounds}
use Rattle.slots.specs.declared.sets.Line.{Line}
use Rattle.slots.specs.declared.sets.Sets.{Sets}
use Rattle.slots.specs.declared.sets.Site.{Site}
use Rattle.slots.specs.declared.sets.Site.TheVariants.{Improper, Held, Free}
use Rattle.slots.specs.Promises.{SpotReady, TagsReady}
use Rattle.slots.specs.Passes.{near, SetsOf, Remains, bounds_by, LinesReady, line_of, proper_in, no_line, address_or_none, LineIn, twice_of, lowest_of, beyond_of, site_by, site_among, site_for}
use Rattle.slots.specs.Sets.{slots_from, places_of, held_twice, proper_set, victim_of, spot_of}
use Rattle.slots.specs.Slots.{set_of, proper_tag, proper_at, holds}
use Rattle.slots.proofs.Lines.{proper_in_holds}
use Rattle.slots.proofs.Victims.{Ranked, is_empty, is_clean, is_dirty, taken_least, whole, lowest_least}

pub lowest_is : (a b c d x y z : ℕ) → z ≡ min (c + 2) (d + 3) → y ≡ min (b + 1) z → x ≡ min a y → x % ways ≡ lowest_of a b c d
lowest_is a b c d x y z p q r = rw (r, q, p)

module _ (first address : ℕ) (a b c d : Line) where
  pub site_first : a.address ≡ address → Held first ≡ site_by first address a b c d
  site_first h = rw (eq-eqb a.address address h)

  module _ (na : a.address ≡ address → ⊥) where
    pub site_second : b.address ≡ address → Held (first + 1) ≡ site_by first address a b c d
    site_second h = rw (ne_eqb a.address address na, eq-eqb b.address address h)

    module _ (nb : b.address ≡ address → ⊥) where
      pub site_third : c.address ≡ address → Held (first + 2) ≡ site_by first address a b c d
      site_third h = rw (ne_eqb a.address address na, ne_eqb b.address address nb, eq-eqb c.address address h)

      module _ (nc : c.address ≡ address → ⊥) where
        pub site_fourth : d.address ≡ address → Held (first + 3) ≡ site_by first address a b c d
        site_fourth h =
            rw (ne_eqb a.address address na, ne_eqb b.address address nb, ne_eqb c.address address nc, eq-eqb d.address address h)

        pub site_taken : (way : ℕ) → (d.address ≡ address → ⊥) → way ≡ lowest_of a.form b.form c.form d.form
            → Free (first + way) ≡ site_by first address a b c d
        site_taken way nd e =
            rw (e, ne_eqb a.address address na, ne_eqb b.address address nb, ne_eqb c.address address nc, ne_eqb d.address address nd)

  pub among_beyond : near ≤ beyond_of a b c d → Improper ≡ site_among first address a b c d
  among_beyond h = rw (le-ltb (beyond_of a b c d) near h)

  module _ (close : beyond_of a b c d < near) (t : Bool) (twice : t ≡ twice_of a.address b.address c.address d.address) where
    pub among_twice : t ≡ true → Improper ≡ site_among first address a b c d
    among_twice h = rw (lt-ltb (beyond_of a b c d) near close, ← twice, h)

    pub among_site : (r : Site) → t ≡ false → r ≡ site_by first address a b c d → r ≡ site_among first address a b c d
    among_site r h e = e ∙ sym (rw (lt-ltb (beyond_of a b c d) near close, ← twice, h))

-- ---- a proper slot

or_near : (x y : ℕ) → ltb (bit_or x y) near ≡ ltb x near && ltb y near
or_near x y =
    hold_together _ _
    (λ t.
    let less = ltb-true (bit_or x y) near t in
    rw (lt-ltb x near (omega (arith, left_or x y)), lt-ltb y near (omega (arith, right_or x y))))
    (λ t.
    let p : x < near = search held depth 12 in
    let q : y < near = search held depth 12 in
    lt-ltb (bit_or x y) near (or_lt 17 x y p q))

module _ (b : Bounds) (work : List ℕ) (set k : ℕ) where
  abbrev word : ℕ
  word = get_or work (slot_at k) 0

  module _ (proper : proper_in b set word ≡ true) where
    empty_ranked : word ≡ 0 → Ranked work k
    empty_ranked z =
        let s : slot_in work k ≡ empty_slot = ap decode_slot z ∙ decode_zero in
        is_empty (eq-eqb word 0 z) (rw s) (rw (s, encode_empty))

    line : (word ≡ 0 → ⊥) → line_of b (slot_in work k) ≡ true
    line n = and_left (line_of b (slot_in work k)) _ (rw (ne_eqb word 0 n) at proper)

    full_ranked : (word ≡ 0 → ⊥) → Ranked work k
    unfolding proper_tag encode pack width
    full_ranked n = go (slot_in work k).dirty refl (line n)
      where
        valid : (slot_in work k).valid ≡ true
        valid = let h = line n in search held depth 12

        spare : (slot_in work k).spare ≡ 0
        spare = let h = line n in search held depth 12

        go : (d : Bool) → (slot_in work k).dirty ≡ d
            → (slot_in work k).valid && eqb (slot_in work k).spare 0
            && cond d (ltb b.persisted (slot_in work k).tag && leb (slot_in work k).tag b.epoch) (eqb (slot_in work k).tag 0)
            && ltb (slot_in work k).address b.lines ≡ true
            → Ranked work k
        go true e h = is_dirty (ne_eqb word 0 n) (rw (valid, e)) (rw (valid, e, spare) (omega arith))
        go false e h =
            let none : (slot_in work k).tag ≡ 0 = search held depth 12 in
            is_clean (ne_eqb word 0 n) (rw (valid, e)) (rw (valid, e, spare, none))

    ranked : Ranked work k
    ranked = go (eqb word 0) refl
      where
        go : (t : Bool) → eqb word 0 ≡ t → Ranked work k
        go true e = empty_ranked (eqb-true word 0 e)
        go false e = full_ranked (eqb-false word 0 e)

    -- it holds an address where it is named so
    module _ (way address : ℕ) (fits : address < no_line) where
      holds_named : (n : ℕ) → n ≡ address_or_none word way → holds work k address ≡ eqb n address
      unfolding holds
      holds_named n e = go (eqb word 0) refl
        where
          go : (t : Bool) → eqb word 0 ≡ t → (slot_in work k).valid && eqb (slot_in work k).address address ≡ eqb n address
          go true z =
              let s : slot_in work k ≡ empty_slot = ap decode_slot (eqb-true word 0 z) ∙ decode_zero in
              let name : n ≡ no_line + way = e ∙ rw z in
              rw s (sym (ne_eqb n address (omega arith)))
          go false z =
              let h = line (eqb-false word 0 z) in
              let valid : (slot_in work k).valid ≡ true = search held depth 12 in
              let name : n ≡ (slot_in work k).address = e ∙ rw z in
              rw (valid, name)

-- ---- two of them

module _ (b : Bounds) (work : List ℕ) (set i j : ℕ) (p : proper_in b set (get_or work (slot_at i) 0) ≡ true)
    (q : proper_in b set (get_or work (slot_at j) 0) ≡ true) (v w : ℕ) (apart : v ≡ w → ⊥) (m n : ℕ)
    (mine : m ≡ address_or_none (get_or work (slot_at i) 0) v) (other : n ≡ address_or_none (get_or work (slot_at j) 0) w) where
  -- both hold one line exactly where they are named the same
  same_named : eqb n m ≡ (slot_in work i).valid && holds work j (slot_in work i).address
  same_named = go (eqb (get_or work (slot_at i) 0) 0) refl
    where
      fits : (slot_in work i).address < no_line
      fits = (slot_laws.decoded_fits (get_or work (slot_at i) 0)).address

      there : (slot_in work j).address < no_line
      there = (slot_laws.decoded_fits (get_or work (slot_at j) 0)).address

      not_none : (t : Bool) → eqb (get_or work (slot_at j) 0) 0 ≡ t → n ≡ no_line + v → ⊥
      not_none true z e = let name : n ≡ no_line + w = other ∙ rw z in apart (omega arith)
      not_none false z e = let name : n ≡ (slot_in work j).address = other ∙ rw z in omega (arith, there)

      go : (t : Bool) → eqb (get_or work (slot_at i) 0) 0 ≡ t → eqb n m ≡ (slot_in work i).valid && holds work j (slot_in work i).address
      go true z =
          let s : slot_in work i ≡ empty_slot = ap decode_slot (eqb-true (get_or work (slot_at i) 0) 0 z) ∙ decode_zero in
          let name : m ≡ no_line + v = mine ∙ rw z in
          rw (s, name) (ne_eqb n (no_line + v) (not_none (eqb (get_or work (slot_at j) 0) 0) refl))
      go false z =
          let h = line b work set i p (eqb-false (get_or work (slot_at i) 0) 0 z) in
          let valid : (slot_in work i).valid ≡ true = search held depth 12 in
          let name : m ≡ (slot_in work i).address = mine ∙ rw z in
          rw (valid, name) (sym (holds_named b work set j q w (slot_in work i).address fits n other))

-- ---- the four of a set

with_none : (t : Bool) → t || false ≡ t
with_none true = refl
with_none false = refl

three : (v x y z : Bool) → v && (x || (y || (z || false))) ≡ (v && x) || ((v && y) || (v && z))
three true x y z = ap (λ (t : Bool). x || (y || t)) (with_none z)
three false x y z = refl

two : (v x y : Bool) → v && (x || (y || false)) ≡ (v && x) || (v && y)
two true x y = ap (λ (t : Bool). x || t) (with_none y)
two false x y = refl

one_of : (v x t : Bool) → v && (x || false) || (t && false || false) ≡ v && x
one_of true x true = with_none (x || false) ∙ with_none x
one_of true x false = with_none (x || false) ∙ with_none x
one_of false x true = refl
one_of false x false = refl

and_four : (p q r s : Bool) → ((p && q) && r) && s ≡ p && (q && (r && (s && true)))
and_four true true true true = refl
and_four true true true false = refl
and_four true true false s = refl
and_four true false r s = refl
and_four false q r s = refl

module _ (b : Bounds) (work : List ℕ) (set address : ℕ) (fits : address < no_line) (l m n o : Line) where
  abbrev k : ℕ
  k = ways * set

  abbrev In : (way : ℕ) → Line → Type 0
  In way = LineIn b set way (get_or work (slot_at (k + way)) 0)

  module _ (a : LineIn b set 0 (get_or work (slot_at k) 0) l) (c : In 1 m) (d : In 2 n) (e : In 3 o) where
    abbrev in_set : ℕ → Bool
    in_set j = proper_in b set (get_or work (slot_at j) 0)

    at_proper : (j : ℕ) → j / ways ≡ set → proper_at b work j ≡ in_set j
    unfolding proper_at
    at_proper j h = proper_in_holds b j (get_or work (slot_at j) 0) ∙ rw h

    all_near : ltb (beyond_of l m n o) near ≡ all_of (proper_at b work) (slots_from k)
    all_near =
        rw (
          or_near (bit_or (bit_or l.beyond m.beyond) n.beyond) o.beyond,
          or_near (bit_or l.beyond m.beyond) n.beyond,
          or_near l.beyond m.beyond,
          a.beyond,
          c.beyond,
          d.beyond,
          e.beyond,
          at_proper k (omega arith),
          at_proper (k + 1) (omega arith),
          at_proper (k + 2) (omega arith),
          at_proper (k + 3) (omega arith),
        )
        (and_four (in_set k) (in_set (k + 1)) (in_set (k + 2)) (in_set (k + 3)))

    module _ (all : all_of (proper_at b work) (slots_from k) ≡ true) where
      others : all_of (proper_at b work) ((k + 1) ∷ (k + 2) ∷ (k + 3) ∷ []) ≡ true
      others = all_tail (proper_at b work) k ((k + 1) ∷ (k + 2) ∷ (k + 3) ∷ []) all

      later : all_of (proper_at b work) ((k + 2) ∷ (k + 3) ∷ []) ≡ true
      later = all_tail (proper_at b work) (k + 1) ((k + 2) ∷ (k + 3) ∷ []) others

      p0 : in_set k ≡ true
      p0 = sym (at_proper k (omega arith)) ∙ all_head (proper_at b work) k ((k + 1) ∷ (k + 2) ∷ (k + 3) ∷ []) all

      p1 : in_set (k + 1) ≡ true
      p1 = sym (at_proper (k + 1) (omega arith)) ∙ all_head (proper_at b work) (k + 1) ((k + 2) ∷ (k + 3) ∷ []) others

      p2 : in_set (k + 2) ≡ true
      p2 = sym (at_proper (k + 2) (omega arith)) ∙ all_head (proper_at b work) (k + 2) ((k + 3) ∷ []) later

      p3 : in_set (k + 3) ≡ true
      p3 =
          sym (at_proper (k + 3) (omega arith))
          ∙ all_head (proper_at b work) (k + 3) [] (all_tail (proper_at b work) (k + 2) ((k + 3) ∷ []) later)

      -- "a line held twice in it"
      twice_is : twice_of l.address m.address n.address o.address ≡ held_twice work (slots_from k)
      twice_is =
          let pair = same_named b work set in
          rw (
            pair k (k + 1) p0 p1 0 1 (λ x. omega arith) l.address m.address (a.named p0) (c.named p1),
            pair k (k + 2) p0 p2 0 2 (λ x. omega arith) l.address n.address (a.named p0) (d.named p2),
            pair k (k + 3) p0 p3 0 3 (λ x. omega arith) l.address o.address (a.named p0) (e.named p3),
            pair (k + 1) (k + 2) p1 p2 1 2 (λ x. omega arith) m.address n.address (c.named p1) (d.named p2),
            pair (k + 1) (k + 3) p1 p3 1 3 (λ x. omega arith) m.address o.address (c.named p1) (e.named p3),
            pair (k + 2) (k + 3) p2 p3 2 3 (λ x. omega arith) n.address o.address (d.named p2) (e.named p3),
            three,
            two,
            one_of,
          )

      -- the victim
      taken_is : victim_of work (slots_from k) ≡ k + lowest_of l.form m.form n.form o.form
      taken_is =
          let f : ℕ → ℕ = λ j. slot_form (slot_in work j) in
          let r0 = ranked b work set k p0 in
          let r1 = ranked b work set (k + 1) p1 in
          let r2 = ranked b work set (k + 2) p2 in
          let r3 = ranked b work set (k + 3) p3 in
          taken_least work k ((k + 1) ∷ (k + 2) ∷ (k + 3) ∷ []) (r0, (r1, (r2, (r3, tt))))
          ∙ sym
          (rw (a.form, c.form, d.form, e.form)
          (lowest_least f k (whole work k r0) (whole work (k + 1) r1) (whole work (k + 2) r2) (whole work (k + 3) r3)))

      here : (j way : ℕ) (x : Line) → in_set j ≡ true → x.address ≡ address_or_none (get_or work (slot_at j) 0) way
          → holds work j address ≡ eqb x.address address
      here j way x p e = holds_named b work set j p way address fits x.address e

      site_is : site_by k address l m n o
          ≡ cond (any_of (λ j. holds work j address) (slots_from k))
          (Held (first_of (λ j. holds work j address) (slots_from k) (victim_of work (slots_from k))))
          (Free (first_of (λ j. holds work j address) (slots_from k) (victim_of work (slots_from k))))
      site_is =
          rw (
            taken_is,
            here k 0 l p0 (a.named p0),
            here (k + 1) 1 m p1 (c.named p1),
            here (k + 2) 2 n p2 (d.named p2),
            here (k + 3) 3 o p3 (e.named p3),
          )
          (go (eqb l.address address) (eqb m.address address) (eqb n.address address) (eqb o.address address))
        where
          w : ℕ
          w = k + lowest_of l.form m.form n.form o.form

          go : (p q r t : Bool)
              → cond p (Held k) (cond q (Held (k + 1)) (cond r (Held (k + 2)) (cond t (Held (k + 3)) (Free w))))
              ≡ cond (p || (q || (r || (t || false))))
              (Held (cond p k (cond q (k + 1) (cond r (k + 2) (cond t (k + 3) w)))))
              (Free (cond p k (cond q (k + 1) (cond r (k + 2) (cond t (k + 3) w)))))
          go true q r t = refl
          go false true r t = refl
          go false false true t = refl
          go false false false true = refl
          go false false false false = refl

    pub among_is : set_of b.slots address ≡ set → site_among k address l m n o ≡ site_for b work address
    unfolding site_for proper_set places_of spot_of
    among_is home = rw (home, all_near) (go (all_of (proper_at b work) (slots_from k)) refl)
      where
        go : (t : Bool) → all_of (proper_at b work) (slots_from k) ≡ t
            → cond (t && not (twice_of l.address m.address n.address o.address)) (site_by k address l m n o) Improper
            ≡ cond (t && not (held_twice work (slots_from k)))
            (cond (any_of (λ j. holds work j address) (slots_from k))
            (Held (first_of (λ j. holds work j address) (slots_from k) (victim_of work (slots_from k))))
            (Free (first_of (λ j. holds work j address) (slots_from k) (victim_of work (slots_from k)))))
            Improper
        go true all = rw (twice_is all, site_is all)
        go false all = refl

-- ---- what the pass has at hand

form_below : (s : Slot) → SlotFits s → slot_form s + 3 < 2 ^ 64
unfolding encode pack width
form_below s fits = go s.valid s.dirty
  where
    go : (v d : Bool) → bit v * 2 ^ 63 + (bit d * 2 ^ 62 + (0 * 2 ^ 46 + (s.tag * 2 ^ spare_bits + (s.spare * 2 ^ 0 + 0)))) + 3 < 2 ^ 64
    go true true = omega (arith, fits.tag, fits.spare)
    go true false = omega (arith, fits.tag, fits.spare)
    go false true = omega (arith, fits.tag, fits.spare)
    go false false = omega (arith, fits.tag, fits.spare)

pub line_room : (b : Bounds) (set way word : ℕ) (r : Line) → LineIn b set way word r → r.form + 3 < 2 ^ 64
line_room b set way word r h = rw h.form (form_below (decode_slot word) (slot_laws.decoded_fits word))

module _ (work : List ℕ) (slots least tags address : ℕ) (ready : SpotReady work slots address) (s : Sets) (so : SetsOf slots s) (set : ℕ)
    (remains : Remains s.count address set) where
  pub set_room : ways * set + ways ≤ most_slots
  set_room = omega (arith, remains.below, so.count, ready.sets.most)

  pub last_word : 2 * (ways * set) + 6 < length work
  last_word = omega (arith, remains.below, so.count, ready.words)

  module _ (away : ℕ) (distance : away ≡ s.count - set) where
    pub lines_ready : TagsReady least tags → LinesReady least tags s away
    lines_ready tagged =
        record { tags_ready = tagged; divides = so.dividing; some = omega (arith, remains.below); most = omega arith }

    pub site_found : (lines : ℕ) (l m n o : Line) (r : Site)
        → LineIn (bounds_by (ways * s.count) lines least tags) (s.count - away) 0 (get_or work (2 * (ways * set)) 0) l
        → LineIn (bounds_by (ways * s.count) lines least tags) (s.count - away) 1 (get_or work (2 * (ways * set) + 2) 0) m
        → LineIn (bounds_by (ways * s.count) lines least tags) (s.count - away) 2 (get_or work (2 * (ways * set) + 4) 0) n
        → LineIn (bounds_by (ways * s.count) lines least tags) (s.count - away) 3 (get_or work (2 * (ways * set) + 6) 0) o
        → r ≡ site_among (ways * set) address l m n o → r ≡ site_for (bounds_by slots lines least tags) work address
    unfolding set_of
    site_found lines l m n o r a c d e x =
        let back : s.count - away ≡ set = omega (arith, remains.below) in
        let same : ways * s.count ≡ slots = omega (arith, so.count, ready.sets.whole) in
        let second : 2 * (ways * set) + 2 ≡ 2 * (ways * set + 1) = omega arith in
        let third : 2 * (ways * set) + 4 ≡ 2 * (ways * set + 2) = omega arith in
        let fourth : 2 * (ways * set) + 6 ≡ 2 * (ways * set + 3) = omega arith in
        x ∙ among_is (bounds_by slots lines least tags) work set address ready.fits l m n o
        (rw (back, same) at a) (rw (back, same, second) at c) (rw (back, same, third) at d) (rw (back, same, fourth) at e)
        (rw (← so.count) (sym remains.is))
