-- The two parts of the work memory, slots and buffer: what a store to one slot, or another buffer, leaves of the rest.
use Rattle.std.specs.Prelude.{ℕ, ◌+◌, ◌*◌, ◌<◌, ◌≤◌, ◌≡◌, refl, ◌≢◌, List, length, get_or, take, set}
use Rattle.std.proofs.Common.{sym, ap, ◌∙◌, arith, length-append, drop_at}
use Rattle.std.proofs.Math.ListN.{length-set, length-take, get_or-append}
use Rattle.std.proofs.Math.Seq.{get_or-set_same, get_or-set_other, get_or-take, drop-set-lt}
use Rattle.std.proofs.lemmas.List.{set-get_or}
use Rattle.layout.specs.declared.Slot.{Slot}
use Rattle.layout.specs.Memory.{buffer_words, buffer_at, buffer_in, slot_in, data_in}
use Rattle.layout.specs.Words.{encode_slot, decode_slot, SlotFits}
use Rattle.layout.specs.Laws.{slot_laws}
use Rattle.base.specs.Parts.{set_pair}
use Rattle.slots.specs.Slots.{clean_slot, dirty_slot, zeroed, filled, dirtied, cleaned}
use Rattle.layout.specs.Memory.{with_buffer}
use Rattle.layout.specs.ZeroWord.{empty_slot, encode_empty}

-- ---- another slot in place of slot k

unfoldable pub slot_put : List ℕ → (k : ℕ) → Slot → (value : ℕ) → List ℕ
slot_put work k s value = set_pair work (2 * k) (encode_slot s) value

-- the four stores that the cache makes
pub zeroed_put : (work : List ℕ) (k : ℕ) → zeroed work k ≡ slot_put work k empty_slot 0
unfolding zeroed slot_put
zeroed_put work k = rw encode_empty

pub filled_put : (work : List ℕ) (k address line : ℕ) → filled work k address line ≡ slot_put work k (clean_slot address) line
unfolding filled slot_put
filled_put work k address line = refl

pub dirtied_put : (work : List ℕ) (k address epoch value : ℕ)
    → dirtied work k address epoch value ≡ slot_put work k (dirty_slot address epoch) value
unfolding dirtied slot_put
dirtied_put work k address epoch value = refl

pub cleaned_put : (work : List ℕ) (k address : ℕ) → cleaned work k address ≡ slot_put work k (clean_slot address) (data_in work k)
unfolding cleaned slot_put
cleaned_put work k address =
    let word = encode_slot (clean_slot address) in
    let kept = get_or-set_other work (2 * k) (2 * k + 1) word 0 (omega arith) in
    sym (ap (set (set work (2 * k) word) (2 * k + 1)) (sym kept) ∙ set-get_or (set work (2 * k) word) (2 * k + 1) 0)

-- The words of other slots, and of the buffer, are as they were.
module _ (work : List ℕ) (k : ℕ) (s : Slot) (value : ℕ) where
  pub put_length : length (slot_put work k s value) ≡ length work
  unfolding slot_put
  put_length = simp length-set

  pub put_other_word : (j : ℕ) → j ≢ k → get_or (slot_put work k s value) (2 * j) 0 ≡ get_or work (2 * j) 0
  unfolding slot_put
  put_other_word j away =
      get_or-set_other (set work (2 * k) (encode_slot s)) (2 * k + 1) (2 * j) value 0 (omega arith)
      ∙ get_or-set_other work (2 * k) (2 * j) (encode_slot s) 0 (λ same. away (omega arith))

  pub put_other_value : (j : ℕ) → j ≢ k → data_in (slot_put work k s value) j ≡ data_in work j
  unfolding slot_put
  put_other_value j away =
      get_or-set_other (set work (2 * k) (encode_slot s)) (2 * k + 1) (2 * j + 1) value 0 (λ same. away (omega arith))
      ∙ get_or-set_other work (2 * k) (2 * j + 1) (encode_slot s) 0 (omega arith)

  module _ (within : 2 * k + 2 + buffer_words ≤ length work) where
    pub put_word : get_or (slot_put work k s value) (2 * k) 0 ≡ encode_slot s
    unfolding slot_put
    put_word =
        get_or-set_other (set work (2 * k) (encode_slot s)) (2 * k + 1) (2 * k) value 0 (omega arith)
        ∙ get_or-set_same work (2 * k) (encode_slot s) 0 (omega arith)

    pub put_slot : SlotFits s → slot_in (slot_put work k s value) k ≡ s
    put_slot fits = ap decode_slot put_word ∙ slot_laws.decode_encode s fits

    pub put_value : data_in (slot_put work k s value) k ≡ value
    unfolding slot_put
    put_value = get_or-set_same (set work (2 * k) (encode_slot s)) (2 * k + 1) value 0 (simp length-set (omega arith))

    pub put_buffer : buffer_in (slot_put work k s value) ≡ buffer_in work
    unfolding slot_put
    put_buffer = simp length-set
        (drop-set-lt (buffer_at (length work)) (set work (2 * k) (encode_slot s)) (2 * k + 1) value (omega arith)
        ∙ drop-set-lt (buffer_at (length work)) work (2 * k) (encode_slot s) (omega arith))

-- ---- another buffer

module _ (work buffer : List ℕ) (within : buffer_words ≤ length work) (words : length buffer ≡ buffer_words) where
  pub with_length : length (with_buffer work buffer) ≡ length work
  unfolding with_buffer
  with_length = simp (length-append, length-take) (omega arith)

  -- the words of the slots
  pub with_word : (i : ℕ) → i + buffer_words < length work → get_or (with_buffer work buffer) i 0 ≡ get_or work i 0
  unfolding with_buffer
  with_word i below =
      get_or-append (take (buffer_at (length work)) work) buffer 0 i (simp length-take (omega arith))
      ∙ get_or-take (buffer_at (length work)) work i 0 (omega arith)

  pub with_buffer_holds : buffer_in (with_buffer work buffer) ≡ buffer
  unfolding with_buffer
  with_buffer_holds = simp with_length
      (drop_at (take (buffer_at (length work)) work) buffer (buffer_at (length work)) (simp length-take (omega arith)))
