-- The work memory and the registers as the abstract machine's volatile state, and what each step makes of it in that machine's
-- terms.
use Rattle.std.specs.Prelude.{ℕ, ◌+◌, ◌-◌, ◌^◌, ◌<◌, ◌≤◌, ◌≡◌, true, List, [], ◌∷◌, ◌++◌, length}
use Rattle.std.proofs.Math.Path.{ap}
use Rattle.std.proofs.Common.{◌∙◌, add-one, arith, le-leb}
use Rattle.layout.specs.declared.Entry as layout
use Rattle.layout.specs.declared.Slot.{Slot}
use Rattle.layout.specs.Limits.{epoch_bits, buffer_places, most_ahead}
use Rattle.layout.specs.Memory.{buffer_words, buffer_in, slot_in}
use Rattle.layout.specs.Words.{EntryFits, formed}
use Rattle.undo.specs.declared.LogState.{LogState}
use Rattle.undo.specs.Log.{pushed, flushed_buffer}
use Rattle.slots.specs.declared.Bounds.{Bounds}
use Rattle.slots.specs.Slots.{holds, dirty_slot, dirtied}
use Rattle.layout.specs.Memory.{with_buffer}
use Rattle.steps.specs.Effects.{entry_between, logged}
use Rattle.history.specs.Machine.{Entry, Line, dirty, Durable, Volatile, undo, marked, unbuffered, next_epoch, restarted}
use Rattle.base.specs.Cases.{update}
use Rattle.volatile.specs.Parts.{with_buffer_holds}
use Rattle.volatile.specs.Cache.{cache_of}
use Rattle.volatile.specs.Slotted.{Slotted, zero_work, zero_cache, slot_home, with_slot, with_holds, with_cache, with_slotted}
use Rattle.volatile.specs.Stores.{Stored, LineStored, dirtied_held}
use Rattle.base.specs.Listed.{listed}
use Rattle.durable.specs.View.{entry_with, buffer_of}
use Rattle.volatile.specs.Buffer.{buffer_length, flushed_length, pushed_length, pushed_buffer}

abbrev pub volatile_of : List ℕ → (slots epoch count : ℕ) → Volatile
volatile_of work slots epoch count = record { running = epoch; buffer = buffer_of (buffer_in work) count; cache = cache_of work slots }

-- with other lines in the cache: history's `holding`, where one line is updated
abbrev pub with_lines : Volatile → (ℕ → Line) → Volatile
with_lines w lines = record { running = w.running; buffer = w.buffer; cache = lines }

-- with other entries in the buffer: history's `unbuffered`, where there are none
abbrev pub with_entries : Volatile → List Entry → Volatile
with_entries w entries = record { running = w.running; buffer = entries; cache = w.cache }

-- the entry that a store makes, which spans at most as many epochs as s may be ahead, is read as history's `undo`
pub undo_read : (s address from old : ℕ) → from < s → s ≤ from + most_ahead → entry_with (entry_between address from s) old ≡ undo s address from old
unfolding formed
undo_read s address from old early near =
    let since : s - (s - from) ≡ from = omega arith in
    rw (le-leb 1 (s - from) (omega arith), le-leb (s - from) most_ahead (omega arith), le-leb (s - from) s (omega arith), since)

-- ---- power-up and commit

pub view_restarted : (d : Durable) (slots : ℕ) → volatile_of (zero_work slots) slots (d.persisted + 1) 0 ≡ restarted d
unfolding listed
view_restarted d slots = λ i. record { running = add-one d.persisted i; buffer = []; cache = zero_cache slots i }

pub view_commit : (work : List ℕ) (slots epoch count : ℕ)
    → volatile_of work slots (epoch + 1) count ≡ next_epoch (volatile_of work slots epoch count)
view_commit work slots epoch count = rw add-one

-- ---- a store to a slot

pub view_stored : {b : Bounds} {work : List ℕ} {k : ℕ} {s : Slot} {word : ℕ} {lines : ℕ → Line} {work' : List ℕ}
    → Stored b work k s word lines work' → (epoch count : ℕ)
    → volatile_of work' b.slots epoch count ≡ with_lines (volatile_of work b.slots epoch count) lines
view_stored st epoch count = λ i. record { running = epoch; buffer = buffer_of (st.buffer i) count; cache = st.cache i }

-- ---- another buffer

module _ {b : Bounds} {work : List ℕ} (slotted : Slotted b work) where
  pub buffer_words_holds : length (buffer_in work) ≡ buffer_words
  buffer_words_holds = buffer_length work (omega (arith, slotted.words))

  pub view_with : (buffer : List ℕ) → length buffer ≡ buffer_words → (epoch count count' : ℕ)
      → volatile_of (with_buffer work buffer) b.slots epoch count'
      ≡ with_entries (volatile_of work b.slots epoch count) (buffer_of buffer count')
  view_with buffer words epoch count count' =
      let read = with_buffer_holds work buffer (omega (arith, slotted.words)) words in
      let same = with_cache slotted buffer words in
      λ i. record { running = epoch; buffer = buffer_of (read i) count'; cache = same i }

  module _ (u : LogState) where
    pub flushed_words : length (flushed_buffer u (buffer_in work)) ≡ buffer_words
    flushed_words = flushed_length u (buffer_in work) ∙ buffer_words_holds

    -- "then b = 0"
    pub view_flushed : (epoch count : ℕ)
        → volatile_of (with_buffer work (flushed_buffer u (buffer_in work))) b.slots epoch 0
        ≡ unbuffered (volatile_of work b.slots epoch count)
    unfolding listed
    view_flushed epoch count = view_with (flushed_buffer u (buffer_in work)) flushed_words epoch count 0

    -- "An entry goes to the buffer's end"
    module _ (e : layout.Entry) (old : ℕ) where
      abbrev longer : List ℕ
      longer = pushed (buffer_in work) u.buffered e old

      longer_words : length longer ≡ buffer_words
      longer_words = pushed_length (buffer_in work) u.buffered e old ∙ buffer_words_holds

      pub logged_slotted : Slotted b (logged u work e old)
      unfolding logged
      logged_slotted = with_slotted slotted longer longer_words

      pub logged_slot : (k : ℕ) → k < b.slots → slot_in (logged u work e old) k ≡ slot_in work k
      unfolding logged
      logged_slot = with_slot slotted longer longer_words

      pub logged_holds : (k address : ℕ) → k < b.slots → holds (logged u work e old) k address ≡ holds work k address
      unfolding logged
      logged_holds = with_holds slotted longer longer_words

      pub view_logged : u.buffered < buffer_places → EntryFits e → (epoch : ℕ)
          → volatile_of (logged u work e old) b.slots epoch (u.buffered + 1)
          ≡ with_entries (volatile_of work b.slots epoch u.buffered)
          (buffer_of (buffer_in work) u.buffered ++ (entry_with e old ∷ []))
      unfolding logged
      view_logged place fits epoch =
          view_with longer longer_words epoch u.buffered (u.buffered + 1)
          ∙ ap (with_entries (volatile_of work b.slots epoch u.buffered))
          (pushed_buffer (buffer_in work) u.buffered e old place buffer_words_holds fits)

    -- "The line is then dirty with tag s."
    module _ (k address : ℕ) (below : k < b.slots) (h : holds work k address ≡ true)
        (ahead : b.persisted < b.epoch) (last : b.epoch < 2 ^ epoch_bits) (old value : ℕ) where
      pub marked_stored : (e : layout.Entry)
          → LineStored b (logged u work e old) k (dirty_slot address b.epoch) value address (dirty b.epoch value)
          (dirtied (logged u work e old) k address b.epoch value)
      marked_stored e =
          dirtied_held (logged_slotted e old) k below address (logged_holds e old k address below ∙ h)
          b.epoch value ahead (omega arith) last

      pub view_marked : (from : ℕ) → from < b.epoch → b.epoch ≤ from + most_ahead → u.buffered < buffer_places
          → volatile_of (dirtied (logged u work (entry_between address from b.epoch) old) k address b.epoch value)
          b.slots b.epoch (u.buffered + 1)
          ≡ marked (volatile_of work b.slots b.epoch u.buffered) address from old value
      view_marked from early near place =
          let e = entry_between address from b.epoch in
          let fits : EntryFits e = record { address = (slot_home slotted k address below h).fits; till = last; span = omega arith } in
          let read = undo_read b.epoch address from old early near in
          view_stored (marked_stored e) b.epoch (u.buffered + 1)
          ∙ ap (λ (w : Volatile). with_lines w (update w.cache address (dirty b.epoch value)))
          (view_logged e old place fits b.epoch
          ∙ ap (λ (x : Entry). with_entries (volatile_of work b.slots b.epoch u.buffered) (buffer_of (buffer_in work) u.buffered ++ (x ∷ []))) read)
