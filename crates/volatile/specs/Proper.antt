-- What a proper slot is: empty, or a line at home in it that is clean, or dirty since an epoch that waits.
use Rattle.std.specs.Prelude.{ℕ, ◌*◌, ◌/◌, ◌^◌, ◌<◌, ◌≤◌, ◌≡◌, refl, Bool, true, false, cond, ◌&&◌, ◌||◌, List, ltb, leb, eqb, get_or}
use Rattle.std.proofs.Common.{sym, ap, ◌∙◌, arith}
use Rattle.std.proofs.Math.Bool.{or-true}
use Rattle.std.proofs.lemmas.Bool.{false≢true}
use borrow.Author.Tests.{eq-eqb, lt-ltb, le-leb, eqb-true}
use Rattle.base.specs.Tests.{held}
use Rattle.layout.specs.declared.Slot.{Slot}
use Rattle.layout.specs.Laws.{slot_laws}
use Rattle.layout.specs.Limits.{address_bits, ways}
use Rattle.layout.specs.Memory.{slot_in}
use Rattle.layout.specs.Words.{encode_slot, decode_slot, SlotFits}
use Rattle.slots.specs.declared.Bounds.{Bounds}
use Rattle.slots.specs.Slots.{set_of, proper_tag, proper_full, proper_slot, proper_at, holds, clean_slot, dirty_slot}
use Rattle.layout.specs.ZeroWord.{empty_slot, encode_empty, decode_zero}

-- The board has the line at an address, and it may stand in slot k.
pub record AtHome (b : Bounds) (k address : ℕ) : Type 0 where
  pub inside : address < b.lines
  pub fits : address < 2 ^ address_bits
  pub home : set_of b.slots address ≡ k / ways

-- A slot with the line at an address: "either clean with tag 0 or dirty with P < tag ≤ s".
pub data FullSlot (b : Bounds) (address : ℕ) (s : Slot) : Type 0 where
  is_clean : s ≡ clean_slot address → FullSlot b address s
  is_dirty : (tag : ℕ) → s ≡ dirty_slot address tag → b.persisted < tag → tag ≤ b.epoch → FullSlot b address s

pub data ProperSlot (b : Bounds) (k : ℕ) (s : Slot) : Type 0 where
  is_empty : s ≡ empty_slot → ProperSlot b k s
  is_full : (address : ℕ) → AtHome b k address → FullSlot b address s → ProperSlot b k s

-- ---- from the test to the slot

full_slot : (b : Bounds) (s : Slot) → s.valid ≡ true → s.spare ≡ 0 → proper_tag b s ≡ true → FullSlot b s.address s
unfolding proper_tag
full_slot b s valid spare = go s.dirty refl
  where
    go : (d : Bool) → s.dirty ≡ d → cond d (ltb b.persisted s.tag && leb s.tag b.epoch) (eqb s.tag 0) ≡ true
        → FullSlot b s.address s
    go true e h =
        is_dirty s.tag (λ i. record { valid = valid i; dirty = e i; address = s.address; tag = s.tag; spare = spare i })
        (search held) (search held)
    go false e h =
        let none = eqb-true s.tag 0 h in
        is_clean (λ i. record { valid = valid i; dirty = e i; address = s.address; tag = none i; spare = spare i })

full_read : (b : Bounds) (k : ℕ) (s : Slot) → SlotFits s → proper_full b k s ≡ true
    → AtHome b k s.address × FullSlot b s.address s
unfolding proper_full
full_read b k s fits h =
    let here : AtHome b k s.address = record { inside = search held depth 12; fits = fits.address; home = search held depth 12 } in
    (here, full_slot b s (search held depth 12) (search held depth 12) (search held depth 12))

pub proper_slot_holds : (b : Bounds) (work : List ℕ) (k : ℕ) → proper_at b work k ≡ true → ProperSlot b k (slot_in work k)
unfolding proper_at proper_slot
proper_slot_holds b work k = go (eqb (get_or work (2 * k) 0) 0) refl
  where
    go : (t : Bool) → eqb (get_or work (2 * k) 0) 0 ≡ t → t || proper_full b k (slot_in work k) ≡ true → ProperSlot b k (slot_in work k)
    go true e h = is_empty (ap decode_slot (eqb-true (get_or work (2 * k) 0) 0 e) ∙ decode_zero)
    go false e h =
        let r = full_read b k (slot_in work k) (slot_laws.decoded_fits (get_or work (2 * k) 0)) h in
        is_full (slot_in work k).address r.0 r.1

-- ---- from the slot to the test

module _ (b : Bounds) (k : ℕ) where
  full_proper : (address : ℕ) (s : Slot) → AtHome b k address → FullSlot b address s → proper_full b k s ≡ true
  unfolding proper_full proper_tag
  full_proper a s here (is_clean e) = rw (e, lt-ltb a b.lines here.inside, eq-eqb _ (k / ways) here.home)
  full_proper a s here (is_dirty t e low high) =
      rw (e, lt-ltb a b.lines here.inside, eq-eqb _ (k / ways) here.home, lt-ltb b.persisted t low, le-leb t b.epoch high)

  pub slot_proper : (s : Slot) → SlotFits s → ProperSlot b k s → proper_slot b k (encode_slot s) ≡ true
  unfolding proper_slot
  slot_proper s fits (is_empty e) = rw (e, encode_empty)
  slot_proper s fits (is_full a here f) = rw (slot_laws.decode_encode s fits, full_proper a s here f) (or-true (eqb (encode_slot s) 0))

-- ---- other epochs

-- no line that is dirty since the target epoch, or an earlier one
abbrev pub DirtyAfter : (target : ℕ) → Slot → Type 0
DirtyAfter target s = s.dirty ≡ true → target < s.tag

abbrev pub with_epochs : Bounds → (persisted epoch : ℕ) → Bounds
with_epochs b persisted epoch = record { lines = b.lines; slots = b.slots; persisted = persisted; epoch = epoch }

module _ (b : Bounds) (persisted epoch : ℕ) (later : b.epoch ≤ epoch) where
  full_rebound : (address : ℕ) (s : Slot) → DirtyAfter persisted s → FullSlot b address s
      → FullSlot (with_epochs b persisted epoch) address s
  full_rebound address s after (is_clean e) = is_clean e
  full_rebound address s after (is_dirty t e low high) = is_dirty t e ((rw e at after) refl) (omega arith)

  pub proper_rebound : (work : List ℕ) (k : ℕ) → DirtyAfter persisted (slot_in work k) → proper_at b work k ≡ true
      → proper_at (with_epochs b persisted epoch) work k ≡ true
  unfolding proper_at proper_slot
  proper_rebound work k after = go (eqb (get_or work (2 * k) 0) 0)
    where
      s : Slot
      s = slot_in work k

      go : (t : Bool) → t || proper_full b k s ≡ true → t || proper_full (with_epochs b persisted epoch) k s ≡ true
      go true h = refl
      go false h =
          let r = full_read b k s (slot_laws.decoded_fits (get_or work (2 * k) 0)) h in
          full_proper (with_epochs b persisted epoch) k s.address s
          (record { inside = r.0.inside; fits = r.0.fits; home = r.0.home }) (full_rebound s.address s after r.1)

-- ---- a slot that holds an address

full_address : {b : Bounds} {address : ℕ} {s : Slot} → FullSlot b address s → s.address ≡ address
full_address (is_clean e) = rw e
full_address (is_dirty t e low high) = rw e

module _ (work : List ℕ) (k address : ℕ) where
  pub clean_holds : slot_in work k ≡ clean_slot address → holds work k address ≡ true
  unfolding holds
  clean_holds e = rw (e, eq-eqb address address refl)

  pub dirty_holds : (tag : ℕ) → slot_in work k ≡ dirty_slot address tag → holds work k address ≡ true
  unfolding holds
  dirty_holds tag e = rw (e, eq-eqb address address refl)

  pub empty_holds : slot_in work k ≡ empty_slot → holds work k address ≡ false
  unfolding holds
  empty_holds e = rw e

  pub holds_address : holds work k address ≡ true → (slot_in work k).address ≡ address
  unfolding holds
  holds_address h = search held

  module _ (b : Bounds) (h : holds work k address ≡ true) where
    pub held_home : ProperSlot b k (slot_in work k) → AtHome b k address
    held_home (is_empty e) = absurd (false≢true (sym (empty_holds e) ∙ h))
    held_home (is_full a here f) = rw (sym (full_address f) ∙ holds_address h) at here

    pub held_full : ProperSlot b k (slot_in work k) → FullSlot b address (slot_in work k)
    held_full (is_empty e) = absurd (false≢true (sym (empty_holds e) ∙ h))
    held_full (is_full a here f) = rw (sym (full_address f) ∙ holds_address h) at f
