-- The scan's progress: the slots behind the cursor hold no line that is dirty since the target epoch, or an earlier one.
-- At the end the target may be persisted.
use Rattle.std.specs.Prelude.{ℕ, ◌+◌, ◌<◌, ◌≤◌, ◌≡◌, false, ◌&&◌, List, leb, length}
use Rattle.std.proofs.Common.{sym, ◌∙◌, arith, leb-false}
use Rattle.std.proofs.lemmas.Bool.{false≢true}
use Rattle.layout.specs.declared.Entry.{Entry}
use Rattle.layout.specs.declared.Slot.{Slot}
use Rattle.layout.specs.Memory.{buffer_words, slot_in, data_in}
use Rattle.undo.specs.declared.LogState.{LogState}
use Rattle.slots.specs.declared.Bounds.{Bounds}
use Rattle.layout.specs.Memory.{with_buffer}
use Rattle.steps.specs.Effects.{logged}
use Rattle.history.specs.Machine.{Line, Scanned}
use Rattle.base.specs.Cases.{here_or_there}
use Rattle.volatile.specs.Held.{marked_dirty}
use Rattle.volatile.specs.Cache.{cache_found}
use Rattle.volatile.specs.Proper.{is_clean, is_dirty, ProperSlot, is_empty, is_full}
use Rattle.volatile.specs.Proper.{DirtyAfter, with_epochs, proper_rebound}
use Rattle.volatile.specs.Slotted.{Slotted, slot_kind, with_slot}
use Rattle.volatile.specs.Stores.{Stored}
use Rattle.volatile.specs.View.{volatile_of, logged_slot}

-- the slots below c
abbrev pub SweptTo : List ℕ → (c target : ℕ) → Type 0
SweptTo work c target = (k : ℕ) → k < c → DirtyAfter target (slot_in work k)

pub swept_none : (work : List ℕ) (target : ℕ) → SweptTo work 0 target
swept_none work target k below = absurd (omega arith)

-- an empty slot, or a clean one
pub clean_after : (target : ℕ) (s : Slot) → s.dirty ≡ false → DirtyAfter target s
clean_after target s c d = absurd (false≢true (sym c ∙ d))

-- ---- what keeps it

pub swept_stored : {b : Bounds} {work : List ℕ} {k : ℕ} {s : Slot} {word : ℕ} {lines : ℕ → Line} {work' : List ℕ}
    → Stored b work k s word lines work' → (c target : ℕ) → DirtyAfter target s → SweptTo work c target → SweptTo work' c target
swept_stored {k = k} {work' = work'} st c target after swept = here_or_there k (λ j. j < c → DirtyAfter target (slot_in work' j))
    (λ _. rw st.slot after)
    (λ j away below. rw (st.others j away) (swept j below))

pub swept_with : {b : Bounds} {work : List ℕ} → Slotted b work → (buffer : List ℕ) → length buffer ≡ buffer_words
    → (c target : ℕ) → c ≤ b.slots → SweptTo work c target → SweptTo (with_buffer work buffer) c target
swept_with slotted buffer words c target within swept k below = rw (with_slot slotted buffer words k (omega arith)) (swept k below)

pub swept_logged : {b : Bounds} {work : List ℕ} → Slotted b work → (u : LogState) (e : Entry) (old c target : ℕ) → c ≤ b.slots
    → SweptTo work c target → SweptTo (logged u work e old) c target
swept_logged slotted u e old c target within swept k below = rw (logged_slot slotted u e old k (omega arith)) (swept k below)

-- ---- a visit

swept_next : (work : List ℕ) (c target : ℕ) → SweptTo work c target → DirtyAfter target (slot_in work c) → SweptTo work (c + 1) target
swept_next work c target swept after = here_or_there c (λ k. k < c + 1 → DirtyAfter target (slot_in work k))
    (λ _. after)
    (λ k away below. swept k (omega arith))

-- the slot at the cursor is stored to
pub swept_visited : {b : Bounds} {work : List ℕ} {k : ℕ} {s : Slot} {word : ℕ} {lines : ℕ → Line} {work' : List ℕ}
    → Stored b work k s word lines work' → (target : ℕ) → DirtyAfter target s → SweptTo work k target → SweptTo work' (k + 1) target
swept_visited {k = k} {work' = work'} st target after swept =
    swept_next work' k target (swept_stored st k target after swept) (rw st.slot after)

-- a slot that the visit passes by is clean, or has a tag above the target
pub swept_passed : (work : List ℕ) (c target : ℕ) → (slot_in work c).dirty && leb (slot_in work c).tag target ≡ false → SweptTo work c target
    → SweptTo work (c + 1) target
swept_passed work c target passed swept = swept_next work c target swept (λ d. leb-false (slot_in work c).tag target (rw d at passed))

-- ---- the end

pub swept_scanned : (work : List ℕ) (slots target epoch count : ℕ) → SweptTo work slots target → Scanned (volatile_of work slots epoch count) target
swept_scanned work slots target epoch count swept a t d e =
    let found = cache_found work slots a t d e in
    let k = found.0 in
    let m = marked_dirty (slot_in work k) (data_in work k) a t d found.2 in
    rw m.1 at (swept k found.1 m.0)

-- tags are above P
waiting_after : (b : Bounds) (k : ℕ) (s : Slot) → ProperSlot b k s → DirtyAfter b.persisted s
waiting_after b k s (is_empty e) = clean_after b.persisted s (rw e)
waiting_after b k s (is_full a here (is_clean e)) = clean_after b.persisted s (rw e)
waiting_after b k s (is_full a here (is_dirty t e low high)) = λ _. rw e low

module _ {b : Bounds} {work : List ℕ} (slotted : Slotted b work) where
  slotted_rebound : (persisted epoch : ℕ) → b.epoch ≤ epoch → SweptTo work b.slots persisted
      → Slotted (with_epochs b persisted epoch) work
  slotted_rebound persisted epoch later swept =
      record {
        proper = λ k below. proper_rebound b persisted epoch later work k (swept k below) (slotted.proper k below);
        once = slotted.once;
        words = slotted.words;
        sets = slotted.sets;
      }

  -- "Commit: s becomes s + 1."
  pub commit_slotted : Slotted (with_epochs b b.persisted (b.epoch + 1)) work
  commit_slotted = slotted_rebound b.persisted (b.epoch + 1) (omega arith)
      (λ k below. waiting_after b k (slot_in work k) (slot_kind slotted k below))

  -- scan's end: "P = target"
  pub advance_slotted : (target : ℕ) → SweptTo work b.slots target → Slotted (with_epochs b target b.epoch) work
  advance_slotted target swept = slotted_rebound target b.epoch (omega arith) swept
