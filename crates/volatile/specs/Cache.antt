-- The cache by address, read from the slots: what any of them says of it. Where an address may stand is not asked here, and only Proper and
-- Sets open it.
use Rattle.std.specs.Prelude.{ℕ, zero, suc, ◌+◌, ◌*◌, ◌<◌, ◌≤◌, ◌≡◌, refl, ◌≢◌, false, List, length, get_or}
use Rattle.std.proofs.Math.Path.{sym, fun_ext}
use Rattle.std.proofs.Common.{ap₂, ◌∙◌, arith}
use Rattle.layout.specs.declared.Slot.{Slot}
use Rattle.layout.specs.Memory.{buffer_words, slot_in, data_in}
use Rattle.layout.specs.Words.{SlotFits}
use Rattle.slots.specs.Slots.{holds}
use Rattle.history.specs.Machine.{Line, absent, clean, dirty}
use Rattle.base.specs.Cases.{here_or_there, update, update_same, update_other}
use Rattle.layout.specs.ZeroWord.{empty_slot}
use Rattle.volatile.specs.Parts.{slot_put, put_slot, put_value, put_other_word, put_other_value}
use Rattle.volatile.specs.Held.{held_by, held_in, NamesOnly, other_held}

-- what is said first, if anything is
abbrev or_else : Line → Line → Line
or_else absent l = l
or_else (clean d) l = clean d
or_else (dirty t d) l = dirty t d

-- what the first so many slots say of an address
unfoldable pub cache_of : List ℕ → (slots : ℕ) → ℕ → Line
cache_of work zero address = absent
cache_of work (suc k) address = or_else (held_in work k address) (cache_of work k address)

-- no slot but k holds an address
abbrev pub Alone : List ℕ → (slots k address : ℕ) → Type 0
Alone work slots k address = (j : ℕ) → j < slots → j ≢ k → holds work j address ≡ false

-- ---- where an address is found

says_nothing : (work : List ℕ) (k address : ℕ) → holds work k address ≡ false → held_in work k address ≡ absent
unfolding holds held_by
says_nothing work k address h = rw h

or_none : (l : Line) → or_else l absent ≡ l
or_none absent = refl
or_none (clean d) = refl
or_none (dirty t d) = refl

cache_none : (work : List ℕ) (slots address : ℕ) → ((k : ℕ) → k < slots → holds work k address ≡ false) → cache_of work slots address ≡ absent
unfolding cache_of
cache_none work zero address none = refl
cache_none work (suc n) address none =
    rw (says_nothing work n address (none n (omega arith))) (cache_none work n address (λ k below. none k (omega arith)))

pub cache_at : (work : List ℕ) (slots k address : ℕ) → k < slots → Alone work slots k address → cache_of work slots address ≡ held_in work k address
unfolding cache_of
cache_at work zero k address below alone = absurd (omega arith)
cache_at work (suc n) k address below alone =
    here_or_there n (λ k. k < suc n → Alone work (suc n) k address → cache_of work (suc n) address ≡ held_in work k address)
    (λ _ alone. rw (cache_none work n address (λ j h. alone j (omega arith) (omega arith))) (or_none (held_in work n address)))
    (λ k away below alone.
    rw (says_nothing work n address (alone n (omega arith) (λ e. away (sym e))))
    (cache_at work n k address (omega arith) (λ j h. alone j (omega arith))))
    k below alone

-- a dirty line is so in a slot
pub cache_found : (work : List ℕ) (slots address tag value : ℕ) → cache_of work slots address ≡ dirty tag value
    → (k : ℕ) × (k < slots) × (held_in work k address ≡ dirty tag value)
unfolding cache_of
cache_found work zero address tag value e = let z : ◌≡◌ {A = ℕ} 0 1 = cc in absurd (omega arith)
cache_found work (suc n) address tag value e = go (held_in work n address) refl e (cache_found work n address tag value)
  where
    go : (l : Line) → held_in work n address ≡ l → or_else l (cache_of work n address) ≡ dirty tag value
        → (cache_of work n address ≡ dirty tag value → (k : ℕ) × (k < n) × (held_in work k address ≡ dirty tag value))
        → (k : ℕ) × (k < suc n) × (held_in work k address ≡ dirty tag value)
    go absent h e rest = let r = rest e in (r.0, omega (arith, r.1), r.2)
    go (clean d) h e rest = (n, omega arith, h ∙ e)
    go (dirty t d) h e rest = (n, omega arith, h ∙ e)

-- ---- the cache is in what the slots say alone

cache_agree : (work work' : List ℕ) (slots address : ℕ) → ((k : ℕ) → k < slots → held_in work' k address ≡ held_in work k address)
    → cache_of work' slots address ≡ cache_of work slots address
unfolding cache_of
cache_agree work work' zero address same = refl
cache_agree work work' (suc n) address same =
    ap₂ or_else (same n (omega arith)) (cache_agree work work' n address (λ k below. same k (omega arith)))

pub cache_same : (work work' : List ℕ) (slots : ℕ) → ((i : ℕ) → i < 2 * slots → get_or work' i 0 ≡ get_or work i 0)
    → cache_of work' slots ≡ cache_of work slots
cache_same work work' slots same =
    fun_ext (λ a. cache_agree work work' slots a (λ k below. rw (same (2 * k) (omega arith), same (2 * k + 1) (omega arith))))

-- no slot holds a line
pub cache_empty : (work : List ℕ) (slots : ℕ) → ((k : ℕ) → k < slots → slot_in work k ≡ empty_slot) → cache_of work slots ≡ (λ a. absent)
unfolding holds
cache_empty work slots empty = fun_ext (λ a. cache_none work slots a (λ k below. rw (empty k below)))

-- ---- a store to slot k

module _ (work : List ℕ) (slots k : ℕ) (s : Slot) (value : ℕ) (within : 2 * k + 2 + buffer_words ≤ length work) (fits : SlotFits s) where
  abbrev work' : List ℕ
  work' = slot_put work k s value

  put_here : (a : ℕ) → held_in work' k a ≡ held_by s value a
  put_here a = rw (put_slot work k s value within fits, put_value work k s value within)

  -- what the slot says of one address is what it said
  put_agrees : (a : ℕ) → held_by s value a ≡ held_in work k a → cache_of work' slots a ≡ cache_of work slots a
  put_agrees a same = cache_agree work work' slots a (λ j below.
      here_or_there k (λ j. held_in work' j a ≡ held_in work j a) (put_here a ∙ same)
      (λ j away. rw (put_other_word work k s value j away, put_other_value work k s value j away)) j)

  -- of every address
  pub cache_put_same : ((a : ℕ) → held_by s value a ≡ held_in work k a) → cache_of work' slots ≡ cache_of work slots
  cache_put_same same = fun_ext (λ a. put_agrees a (same a))

  -- neither the slot that was there nor s names another address than one, which no other slot holds
  pub cache_put : (address : ℕ) → k < slots → Alone work slots k address → NamesOnly (slot_in work k) address → NamesOnly s address
      → cache_of work' slots ≡ update (cache_of work slots) address (held_by s value address)
  unfolding holds
  cache_put address below alone old new =
      let l = held_by s value address in
      let alone' : Alone work' slots k address = λ j h away. rw (put_other_word work k s value j away) (alone j h away) in
      fun_ext
      (here_or_there address (λ a. cache_of work' slots a ≡ update (cache_of work slots) address l a)
      (cache_at work' slots k address below alone' ∙ put_here address ∙ sym (update_same (cache_of work slots) address l))
      (λ a away.
      put_agrees a (other_held s value address new a away ∙ sym (other_held (slot_in work k) (data_in work k) address old a away))
      ∙ sym (update_other (cache_of work slots) address l a away)))
