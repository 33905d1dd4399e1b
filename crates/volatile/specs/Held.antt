-- How a slot holds a line: what its two words say of an address.
use Rattle.std.specs.Prelude.{ℕ, ◌≡◌, refl, ◌≢◌, Bool, true, false, cond, ◌&&◌, List, eqb}
use Rattle.std.proofs.Common.{sym, eq-eqb, eqb-true}
use Rattle.std.proofs.lemmas.Bool.{false≢true}
use Rattle.layout.specs.declared.Slot.{Slot}
use Rattle.layout.specs.Memory.{slot_in, data_in}
use Rattle.slots.specs.Slots.{clean_slot, dirty_slot}
use Rattle.history.specs.Machine.{Line, absent, clean, dirty}
use Rattle.layout.specs.ZeroWord.{empty_slot}

-- a slot names an address
abbrev pub names : Slot → (address : ℕ) → Bool
names s address = s.valid && eqb s.address address

unfoldable pub held_by : Slot → (value address : ℕ) → Line
held_by s value address = cond (names s address) (cond s.dirty (dirty s.tag value) (clean value)) absent

abbrev pub held_in : List ℕ → (k address : ℕ) → Line
held_in work k address = held_by (slot_in work k) (data_in work k) address

-- ---- by the kind of slot

-- a slot that names no address but one says nothing of another
abbrev pub NamesOnly : Slot → (address : ℕ) → Type 0
NamesOnly s address = (a : ℕ) → names s a ≡ true → a ≡ address

pub other_held : (s : Slot) (value address : ℕ) → NamesOnly s address → (a : ℕ) → a ≢ address → held_by s value a ≡ absent
unfolding held_by
other_held s value address only a away = go (names s a) refl
  where
    go : (t : Bool) → names s a ≡ t → cond t (cond s.dirty (dirty s.tag value) (clean value)) absent ≡ absent
    go true e = absurd (away (only a e))
    go false e = refl

pub empty_names : (address : ℕ) → NamesOnly empty_slot address
empty_names address a h = absurd (false≢true h)

pub clean_names : (address : ℕ) → NamesOnly (clean_slot address) address
clean_names address a h = sym (eqb-true address a h)

pub dirty_names : (address tag : ℕ) → NamesOnly (dirty_slot address tag) address
dirty_names address tag a h = sym (eqb-true address a h)

pub empty_held : (value address : ℕ) → held_by empty_slot value address ≡ absent
unfolding held_by
empty_held value address = refl

pub clean_held : (address value : ℕ) → held_by (clean_slot address) value address ≡ clean value
unfolding held_by
clean_held address value = rw (eq-eqb address address refl)

pub dirty_held : (address tag value : ℕ) → held_by (dirty_slot address tag) value address ≡ dirty tag value
unfolding held_by
dirty_held address tag value = rw (eq-eqb address address refl)

-- ---- a line that is dirty was marked so by its slot

pub marked_dirty : (s : Slot) (value address tag word : ℕ) → held_by s value address ≡ dirty tag word
    → (s.dirty ≡ true) × (s.tag ≡ tag)
unfolding held_by
marked_dirty s value address tag word = go (names s address) s.dirty refl
  where
    go : (h d : Bool) → s.dirty ≡ d → cond h (cond d (dirty s.tag value) (clean value)) absent ≡ dirty tag word
        → (s.dirty ≡ true) × (s.tag ≡ tag)
    go true true p e = (p, cc)
    go true false p e = (cc, cc)
    go false d p e = (cc, cc)
