-- The rows behind 1, 2 and 4: one law for each way out of a function.
use Rattle.std.proofs.Common.{Ok, Err, ◌≡◌, ℕ, ◌+◌, ◌-◌, ◌*◌, ◌/◌, ◌<◌, ◌≤◌, Bool, true, false, cond, not, ◌&&◌, ◌||◌, eqb, List, [], ◌∷◌, ◌++◌, length, take, drop, sym, refl, ◌∙◌, arith, le-ltb, lt-ltb, eq-eqb, ne_eqb, le-leb}
use borrow.Author.Tests.{lt-leb, not-true, not-false}
use Rattle.base.specs.Parts.{rest_lent}
use Rattle.base.specs.Tests.{and_left, and_right}
use Rattle.layout.specs.Limits.{ways}
use Rattle.layout.specs.Memory.{slot_at, slot_in, buffer_at, buffer_in}
use Rattle.status.specs.declared.Status.TheVariants as status
use Rattle.undo.specs.Log.{buffer_proper, buffer_marked}
use Rattle.slots.specs.declared.Bounds.{Bounds}
use Rattle.slots.specs.declared.Spot.{Spot}
use Rattle.slots.specs.Promises.{BoundsReady}
use Rattle.slots.specs.Sets.{slots_from, proper_set}
use Rattle.slots.specs.Slots.{proper_at, undo_due}
use Rattle.checks.specs.declared.Registers.{Registers}
use Rattle.checks.specs.declared.View.{View}
use Rattle.checks.specs.View.{bounds_of, waits, miscounted, good_buffer, good_filter}
use Rattle.checks.specs.Refusals.{Checked, unvalued, Row, tested, buffer_rows, address_rows, room_rows, target_rows, cursor_rows}
use Rattle.checks.specs.Promises.{RowsReady, CountReady, count_rows}
use Rattle.checks.specs.Laws.{passed_first}

-- 7 and 14
module _ (v : View) (work : List ℕ) (r : Registers) (at : ℕ) (here : at ≡ buffer_at (length work)) where
  lent : take (length work - at) (drop at work) ≡ buffer_in work
  lent = rest_lent at work ∙ rw here

  module _ (t : Bool)
      (test : t
      ≡ buffer_proper (take (length work - at) (drop at work)) r.buffered v.shape.lines r.epoch
      && buffer_marked (take (length work - at) (drop at work)) r.buffered)
    where
      sound : t ≡ good_buffer v work r && good_filter work r
      unfolding good_buffer good_filter
      sound = rw lent at test

      pub buffer_passed : t ≡ true → Ok v ≡ tested (buffer_rows v work r) v
      buffer_passed h =
          let both = sym sound ∙ h in
          rw (and_left (good_buffer v work r) (good_filter work r) both, and_right (good_buffer v work r) (good_filter work r) both)

      module _ (bad : t ≡ false) (p : Bool)
          (proper : p ≡ buffer_proper (take (length work - at) (drop at work)) r.buffered v.shape.lines r.epoch)
        where
          good : p ≡ good_buffer v work r
          unfolding good_buffer
          good = rw lent at proper

          pub buffer_unmarked : p ≡ true → Err (unvalued status.Filter) ≡ tested (buffer_rows v work r) v
          buffer_unmarked h =
              let yes : good_buffer v work r ≡ true = sym good ∙ h in
              let no : good_filter work r ≡ false = sym (rw yes at sound) ∙ bad in
              rw (yes, no)

          pub buffer_refused : p ≡ false → Err (unvalued status.Buffer) ≡ tested (buffer_rows v work r) v
          buffer_refused h = let no : good_buffer v work r ≡ false = sym good ∙ h in rw no

-- 5
module _ (v : View) (address : ℕ) where
  pub line_outside : v.shape.lines ≤ address → Err (unvalued status.Address) ≡ tested (address_rows v address) v
  line_outside h = rw (le-leb v.shape.lines address h)

  pub line_inside : address < v.shape.lines → Ok v ≡ tested (address_rows v address) v
  line_inside h = rw (lt-leb v.shape.lines address h)

-- the count
module _ (v : View) (work : List ℕ) (r : Registers) (spot : Spot) where
  pub count_words : CountReady work v spot → (first : ℕ) → first ≡ spot.slot / ways * ways → slot_at (first + ways) ≤ length work
  count_words ready first e = rw e ready.words

  module _ (first : ℕ) (here : first ≡ spot.slot / ways * ways) (m : Bool) (count : m ≡ miscounted v r work (slots_from first)) where
    pub count_refused : m ≡ true → Err (unvalued status.Regs) ≡ tested (count_rows v work r spot) v
    count_refused h = rw (← here, ← count, h)

    pub count_passed : m ≡ false → Ok v ≡ tested (count_rows v work r spot) v
    count_passed h = rw (← here, ← count, h)

-- 8
module _ (v : View) (work : List ℕ) (r : Registers) (spot : Spot) where
  pub room_spot : RowsReady work r v → spot.slot < v.slots → 2 * spot.slot + 2 ≤ length work
  room_spot h below = omega (arith, h.work_words_holds)

  module _ (t : Bool) (due : t ≡ undo_due work spot r.epoch) where
    pub room_spared : not t ≡ true → Ok v ≡ tested (room_rows v work r spot) v
    room_spared h = rw (← due, not-true t h)

    pub room_refused : not t ≡ false → v.shape.entries < v.control.length + r.buffered + 1
        → Err (unvalued status.Room) ≡ tested (room_rows v work r spot) v
    room_refused h g = rw (← due, not-false t h, lt-ltb v.shape.entries (v.control.length + r.buffered + 1) g)

    pub room_found : not t ≡ false → v.control.length + r.buffered + 1 ≤ v.shape.entries → Ok v ≡ tested (room_rows v work r spot) v
    room_found h g = rw (← due, not-false t h, le-ltb v.shape.entries (v.control.length + r.buffered + 1) g)

-- a list of rows, and those behind
pub rows_behind : (rows behind : List Row) (v w : View) (k : Checked) → Ok w ≡ tested rows v → k ≡ tested behind v → k ≡ tested (rows ++ behind) v
rows_behind rows behind v w k e x = x ∙ sym (passed_first rows behind v w e)

module _ (v : View) (work : List ℕ) (r : Registers) where
  pub cursor_end : v.slots ≤ r.cursor → Ok v ≡ tested (cursor_rows v work r) v
  unfolding proper_set miscounted
  cursor_end h = rw (le-ltb r.cursor v.slots h) (go (eqb r.dirty 0) (eqb r.dirty v.slots))
    where
      go : (none all : Bool) → Ok v ≡ cond (none && false || all && false) (Err (unvalued status.Regs)) (Ok v)
      go true true = refl
      go true false = refl
      go false true = refl
      go false false = refl

  module _ (within : r.cursor < v.slots) where
    pub cursor_within : RowsReady work r v → 2 * r.cursor < length work
    cursor_within h = omega (arith, h.work_words_holds)

    pub cursor_words : RowsReady work r v → 2 * r.cursor + 2 ≤ length work
    cursor_words h = omega (arith, h.work_words_holds)

    module _ (b : Bounds) (bounds : b ≡ bounds_of v r) (t : Bool) (slot : t ≡ proper_at b work r.cursor) where
      pub cursor_refused : not t ≡ true → Err (unvalued status.Slot) ≡ tested (cursor_rows v work r) v
      unfolding proper_set
      cursor_refused h = rw (lt-ltb r.cursor v.slots within, ← bounds, ← slot, not-true t h)

      -- a single slot holds no line twice
      proper_alone : not t ≡ false → proper_set (bounds_of v r) work (r.cursor ∷ []) ≡ true
      unfolding proper_set
      proper_alone h = rw (← bounds, ← slot, not-false t h) (go (slot_in work r.cursor).valid)
        where
          go : (x : Bool) → not (x && false || false) ≡ true
          go true = refl
          go false = refl

      module _ (proper : not t ≡ false) (m : Bool) (count : m ≡ miscounted v r work (r.cursor ∷ [])) where
        pub cursor_miscounted : m ≡ true → Err (unvalued status.Regs) ≡ tested (cursor_rows v work r) v
        cursor_miscounted h = rw (lt-ltb r.cursor v.slots within, proper_alone proper, ← count, h)

        pub cursor_passed : m ≡ false → Ok v ≡ tested (cursor_rows v work r) v
        cursor_passed h = rw (lt-ltb r.cursor v.slots within, proper_alone proper, ← count, h)

-- 15
module _ (v : View) (r : Registers) (target : ℕ) where
  pub target_inside : (r.target ≡ 0 → ⊥) → Err (unvalued status.Target) ≡ tested (target_rows v r target) v
  target_inside n = rw (ne_eqb r.target 0 n)

  module _ (outside : r.target ≡ 0) (t : Bool) (test : t ≡ waits v r target) where
    pub target_refused : not t ≡ true → Err (unvalued status.Target) ≡ tested (target_rows v r target) v
    target_refused h = rw (eq-eqb r.target 0 outside, ← test, not-true t h)

    pub target_passed : not t ≡ false → Ok v ≡ tested (target_rows v r target) v
    target_passed h = rw (eq-eqb r.target 0 outside, ← test, not-false t h)

-- behind 1, 2 and 4
module _ (v : View) (r : Registers) (b : Bounds) (work : List ℕ) (e : b ≡ bounds_of v r) (h : RowsReady work r v) where
  pub bounds_ready : BoundsReady b
  bounds_ready =
      rw e record {
        sets = h.sets;
        ahead = h.proper.ahead;
        last = h.proper.epoch_most;
      }

  pub bounds_below : r.cursor < v.slots → r.cursor < b.slots
  bounds_below k = rw e k
