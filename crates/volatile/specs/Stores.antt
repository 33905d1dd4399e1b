-- The stores that the cache makes to a slot: each leaves all slots proper, and changes the cache at one address or nowhere.
use Rattle.std.specs.Prelude.{ℕ, ◌^◌, ◌<◌, ◌≤◌, ◌≡◌, refl, ◌≢◌, Bool, true, false, List}
use Rattle.std.proofs.Math.Path.{sym}
use Rattle.std.proofs.Common.{◌∙◌, arith}
use Rattle.std.proofs.lemmas.Bool.{false≢true}
use Rattle.layout.specs.declared.Slot.{Slot}
use Rattle.layout.specs.Limits.{epoch_bits}
use Rattle.layout.specs.Memory.{buffer_in, slot_in, data_in}
use Rattle.layout.specs.Words.{SlotFits}
use Rattle.slots.specs.declared.Bounds.{Bounds}
use Rattle.slots.specs.Slots.{proper_at, holds, clean_slot, dirty_slot, zeroed, filled, dirtied, cleaned}
use Rattle.history.specs.Machine.{Line, absent, clean, dirty}
use Rattle.base.specs.Cases.{here_or_there, update}
use Rattle.layout.specs.ZeroWord.{empty_slot, empty_fits}
use Rattle.volatile.specs.Parts.{slot_put, zeroed_put, filled_put, dirtied_put, cleaned_put}
use Rattle.volatile.specs.Parts.{put_length, put_word, put_slot, put_value, put_other_word, put_buffer}
use Rattle.volatile.specs.Held.{held_by, names, NamesOnly, empty_names, clean_names, dirty_names, empty_held, clean_held, dirty_held}
use Rattle.volatile.specs.Cache.{cache_of, Alone, cache_put, cache_put_same}
use Rattle.volatile.specs.Proper.{AtHome, is_clean, is_dirty, ProperSlot, is_empty, is_full, slot_proper, holds_address}
use Rattle.volatile.specs.Slotted.{Slotted, slot_within, slot_home}

-- Slot k is now s, with a data word; all other slots and the buffer are as they were; and the cache is now `lines`.
pub record Stored (b : Bounds) (work : List ℕ) (k : ℕ) (s : Slot) (word : ℕ) (lines : ℕ → Line) (work' : List ℕ) : Type 0 where
  pub slotted : Slotted b work'
  pub cache : cache_of work' b.slots ≡ lines
  pub buffer : buffer_in work' ≡ buffer_in work
  pub slot : slot_in work' k ≡ s
  pub value : data_in work' k ≡ word
  pub others : (j : ℕ) → j ≢ k → slot_in work' j ≡ slot_in work j

-- In the cache, the line at an address is now l.
abbrev pub LineStored : Bounds → List ℕ → (k : ℕ) → Slot → (word address : ℕ) → Line → List ℕ → Type 0
LineStored b work k s word address l work' = Stored b work k s word (update (cache_of work b.slots) address l) work'

module _ {b : Bounds} {work : List ℕ} (slotted : Slotted b work) (k : ℕ) (below : k < b.slots) where
  -- ---- any slot

  module _ (s : Slot) (word : ℕ) (fits : SlotFits s) (alone : (a : ℕ) → names s a ≡ true → Alone work b.slots k a) where
    abbrev work' : List ℕ
    work' = slot_put work k s word

    put_names : (a : ℕ) → holds work' k a ≡ names s a
    unfolding holds
    put_names a = rw (put_slot work k s word (slot_within slotted k below) fits)

    put_holds : (j a : ℕ) → j ≢ k → holds work' j a ≡ holds work j a
    unfolding holds
    put_holds j a away = rw (put_other_word work k s word j away)

    -- what another slot holds, s does not name
    not_named : (j a : ℕ) → j < b.slots → j ≢ k → holds work j a ≡ true → names s a ≡ false
    not_named j a under away h = go (names s a) refl
      where
        go : (t : Bool) → names s a ≡ t → t ≡ false
        go true e = absurd (false≢true (sym (alone a e j under away) ∙ h))
        go false e = refl

    put_once : (j a : ℕ) → j < b.slots → holds work' j a ≡ true → Alone work' b.slots j a
    put_once = here_or_there k (λ j. (a : ℕ) → j < b.slots → holds work' j a ≡ true → Alone work' b.slots j a)
        (λ a _ h i under away. put_holds i a away ∙ alone a (sym (put_names a) ∙ h) i under away)
        (λ j away a under h. here_or_there k (λ i. i < b.slots → i ≢ j → holds work' i a ≡ false)
        (λ _ _. put_names a ∙ not_named j a under away (sym (put_holds j a away) ∙ h))
        (λ i other beneath apart. put_holds i a other ∙ slotted.once j a under (sym (put_holds j a away) ∙ h) i beneath apart))

    put_slotted : ProperSlot b k s → Slotted b work'
    unfolding proper_at
    put_slotted proper =
        record {
          proper = here_or_there k (λ j. j < b.slots → proper_at b work' j ≡ true)
              (λ _. rw (put_word work k s word (slot_within slotted k below)) (slot_proper b k s fits proper))
              (λ j away h. rw (put_other_word work k s word j away) (slotted.proper j h));
          once = put_once;
          words = put_length work k s word ∙ slotted.words;
          sets = slotted.sets;
        }

    put_stored : {lines : ℕ → Line} → ProperSlot b k s → cache_of work' b.slots ≡ lines → Stored b work k s word lines work'
    put_stored proper cache =
        record {
          slotted = put_slotted proper;
          cache = cache;
          buffer = put_buffer work k s word (slot_within slotted k below);
          slot = put_slot work k s word (slot_within slotted k below) fits;
          value = put_value work k s word (slot_within slotted k below);
          others = λ j away. rw (put_other_word work k s word j away);
        }

  -- Slot k, that named no address but one, now says that the line there is l. No other slot holds it.
  put_line : (s : Slot) (word address : ℕ) {l : Line} → SlotFits s → ProperSlot b k s → Alone work b.slots k address
      → NamesOnly (slot_in work k) address → NamesOnly s address → held_by s word address ≡ l
      → LineStored b work k s word address l (slot_put work k s word)
  put_line s word address fits proper alone old new is = rw (← is)
      (put_stored s word fits (λ a h. rw (new a h) alone) proper
      (cache_put work b.slots k s word (slot_within slotted k below) fits address below alone old new))

  put_clean : (address word : ℕ) → AtHome b k address → Alone work b.slots k address → NamesOnly (slot_in work k) address
      → LineStored b work k (clean_slot address) word address (clean word) (slot_put work k (clean_slot address) word)
  put_clean address word here alone old =
      put_line (clean_slot address) word address (record { address = here.fits; tag = omega arith; spare = omega arith })
      (is_full address here (is_clean refl)) alone old (clean_names address) (clean_held address word)

  -- ---- an empty slot

  module _ (empty : slot_in work k ≡ empty_slot) where
    pub zeroed_empty : Stored b work k empty_slot 0 (cache_of work b.slots) (zeroed work k)
    zeroed_empty = rw (zeroed_put work k)
        (put_stored empty_slot 0 empty_fits (λ a h. absurd (false≢true h)) (is_empty refl)
        (cache_put_same work b.slots k empty_slot 0 (slot_within slotted k below) empty_fits
        (λ a. empty_held 0 a ∙ sym (rw empty (empty_held (data_in work k) a)))))

    pub filled_empty : (address line : ℕ) → AtHome b k address → Alone work b.slots k address
        → LineStored b work k (clean_slot address) line address (clean line) (filled work k address line)
    filled_empty address line here alone =
        rw (filled_put work k address line) (put_clean address line here alone (rw empty (empty_names address)))

  -- ---- a slot that holds an address

  module _ (address : ℕ) (h : holds work k address ≡ true) where
    here : AtHome b k address
    here = slot_home slotted k address below h

    alone : Alone work b.slots k address
    alone = slotted.once k address below h

    names_it : NamesOnly (slot_in work k) address
    unfolding holds
    names_it a e = sym (holds_address work k a e) ∙ holds_address work k address h

    pub zeroed_held : LineStored b work k empty_slot 0 address absent (zeroed work k)
    zeroed_held = rw (zeroed_put work k)
        (put_line empty_slot 0 address empty_fits (is_empty refl) alone names_it (empty_names address) (empty_held 0 address))

    pub cleaned_held : LineStored b work k (clean_slot address) (data_in work k) address (clean (data_in work k)) (cleaned work k address)
    cleaned_held = rw (cleaned_put work k address) (put_clean address (data_in work k) here alone names_it)

    pub dirtied_held : (epoch value : ℕ) → b.persisted < epoch → epoch ≤ b.epoch → epoch < 2 ^ epoch_bits
        → LineStored b work k (dirty_slot address epoch) value address (dirty epoch value) (dirtied work k address epoch value)
    dirtied_held epoch value low high fits = rw (dirtied_put work k address epoch value)
        (put_line (dirty_slot address epoch) value address (record { address = here.fits; tag = fits; spare = omega arith })
        (is_full address here (is_dirty epoch refl low high)) alone names_it (dirty_names address epoch) (dirty_held address epoch value))
