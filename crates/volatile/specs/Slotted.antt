-- A work memory of the right size whose slots are all proper, with each line in one of them at most.
use Rattle.std.specs.Prelude.{ℕ, ◌+◌, ◌*◌, ◌<◌, ◌≤◌, ◌≡◌, true, List, length, get_or, replicate}
use Rattle.std.proofs.Common.{sym, ap, ◌∙◌, arith}
use Rattle.std.proofs.lemmas.Bool.{false≢true}
use Rattle.std.proofs.lemmas.List.{length-replicate, get_or-replicate}
use Rattle.layout.specs.Memory.{buffer_words, work_words, slot_in, data_in}
use Rattle.layout.specs.Sizes.{WholeSets}
use Rattle.layout.specs.Words.{decode_slot}
use Rattle.slots.specs.declared.Bounds.{Bounds}
use Rattle.slots.specs.Slots.{proper_slot, proper_at, holds, clean_slot, dirty_slot}
use Rattle.layout.specs.Memory.{with_buffer}
use Rattle.history.specs.Machine.{absent, clean, dirty}
use Rattle.layout.specs.ZeroWord.{empty_slot, decode_zero}
use Rattle.volatile.specs.Parts.{with_length, with_word}
use Rattle.volatile.specs.Held.{held_in, clean_held, dirty_held}
use Rattle.volatile.specs.Cache.{cache_of, Alone, cache_at, cache_same, cache_empty}
use Rattle.volatile.specs.Proper.{AtHome, FullSlot, ProperSlot, proper_slot_holds, clean_holds, dirty_holds, empty_holds, held_home, held_full}

pub record Slotted (b : Bounds) (work : List ℕ) : Type 0 where
  pub proper : (k : ℕ) → k < b.slots → proper_at b work k ≡ true
  -- request 6/13: a line is held at most once
  pub once : (k address : ℕ) → k < b.slots → holds work k address ≡ true → Alone work b.slots k address
  pub words : length work ≡ work_words b.slots
  pub sets : WholeSets b.slots

-- ---- "Then work memory all zero"

module _ (slots : ℕ) where
  abbrev pub zero_work : List ℕ
  zero_work = replicate (work_words slots) 0

  zero_word : (k : ℕ) → k < slots → get_or zero_work (2 * k) 0 ≡ 0
  zero_word k below = get_or-replicate {A = ℕ} (work_words slots) (2 * k) 0 0 (omega arith)

  zero_slot : (k : ℕ) → k < slots → slot_in zero_work k ≡ empty_slot
  zero_slot k below = ap decode_slot (zero_word k below) ∙ decode_zero

  pub zero_cache : cache_of zero_work slots ≡ (λ a. absent)
  zero_cache = cache_empty zero_work slots zero_slot

pub zero_slotted : (b : Bounds) → WholeSets b.slots → Slotted b (zero_work b.slots)
unfolding proper_at proper_slot
zero_slotted b sets =
    record {
      proper = λ k below. rw (zero_word b.slots k below);
      once = λ k a below h. absurd (false≢true (sym (empty_holds (zero_work b.slots) k a (zero_slot b.slots k below)) ∙ h));
      words = length-replicate (work_words b.slots) 0;
      sets = sets;
    }

module _ {b : Bounds} {work : List ℕ} (slotted : Slotted b work) where
  -- ---- a slot

  pub slot_within : (k : ℕ) → k < b.slots → 2 * k + 2 + buffer_words ≤ length work
  slot_within k below = omega (arith, slotted.words)

  pub slot_kind : (k : ℕ) → k < b.slots → ProperSlot b k (slot_in work k)
  slot_kind k below = proper_slot_holds b work k (slotted.proper k below)

  module _ (k address : ℕ) (below : k < b.slots) (h : holds work k address ≡ true) where
    pub slot_home : AtHome b k address
    slot_home = held_home work k address b h (slot_kind k below)

    pub slot_full : FullSlot b address (slot_in work k)
    slot_full = held_full work k address b h (slot_kind k below)

    slot_cached : cache_of work b.slots address ≡ held_in work k address
    slot_cached = cache_at work b.slots k address below (slotted.once k address below h)

  module _ (k address : ℕ) (below : k < b.slots) where
    pub clean_cached : slot_in work k ≡ clean_slot address → cache_of work b.slots address ≡ clean (data_in work k)
    clean_cached e = slot_cached k address below (clean_holds work k address e) ∙ rw (e, clean_held address (data_in work k))

    pub dirty_cached : (tag : ℕ) → slot_in work k ≡ dirty_slot address tag → cache_of work b.slots address ≡ dirty tag (data_in work k)
    dirty_cached tag e = slot_cached k address below (dirty_holds work k address tag e) ∙ rw (e, dirty_held address tag (data_in work k))

  -- ---- another buffer

  module _ (buffer : List ℕ) (words : length buffer ≡ buffer_words) where
    with_same : (i : ℕ) → i < 2 * b.slots → get_or (with_buffer work buffer) i 0 ≡ get_or work i 0
    with_same i below = with_word work buffer (omega (arith, slotted.words)) words i (omega (arith, slotted.words))

    pub with_slot : (k : ℕ) → k < b.slots → slot_in (with_buffer work buffer) k ≡ slot_in work k
    with_slot k below = rw (with_same (2 * k) (omega arith))

    pub with_value : (k : ℕ) → k < b.slots → data_in (with_buffer work buffer) k ≡ data_in work k
    with_value k below = with_same (2 * k + 1) (omega arith)

    pub with_holds : (k address : ℕ) → k < b.slots → holds (with_buffer work buffer) k address ≡ holds work k address
    unfolding holds
    with_holds k address below = rw (with_same (2 * k) (omega arith))

    pub with_cache : cache_of (with_buffer work buffer) b.slots ≡ cache_of work b.slots
    with_cache = cache_same work (with_buffer work buffer) b.slots with_same

    pub with_slotted : Slotted b (with_buffer work buffer)
    unfolding proper_at
    with_slotted =
        record {
          proper = λ k below. rw (with_same (2 * k) (omega arith)) (slotted.proper k below);
          once = λ k a below h j under away. with_holds j a under ∙ slotted.once k a below (sym (with_holds k a below) ∙ h) j under away;
          words = with_length work buffer (omega (arith, slotted.words)) words ∙ slotted.words;
          sets = slotted.sets;
        }
