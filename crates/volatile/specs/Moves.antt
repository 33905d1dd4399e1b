-- What a call does to one slot it does to no other.
use Prim.Native.Nat.{ℕ, ◌+◌, ◌*◌}
use Rattle.std.specs.Prelude.{◌≡◌, refl, Bool, cond, ◌&&◌, eqb, length}
use Rattle.std.proofs.Common.{◌∙◌, arith}
use Rattle.std.proofs.Math.Bool.{true, false}
use mathlib.Core.List.{List}
use Rattle.std.proofs.Math.Dec.{leb}
use Rattle.layout.specs.declared.Entry.{Entry}
use Rattle.layout.specs.declared.Slot.{Slot}
use Rattle.layout.specs.Limits.{buffer_places}
use Rattle.layout.specs.Memory.{buffer_words, work_words, buffer_in, slot_in, data_in, with_buffer}
use Rattle.undo.specs.declared.LogState.{LogState}
use Rattle.undo.specs.Filter.{hits}
use Rattle.undo.specs.Log.{counted, pushed, flushed_buffer}
use Rattle.slots.specs.Slots.{holds, zeroed, filled, dirtied, cleaned, entry_due}
use Rattle.steps.specs.Effects.{nothing, flushing_if, writing_out, writing_back, emptying, bringing, entry_for, logged, storing_held}
use Rattle.steps.specs.Effects.{loading, storing, evicting, cleaning, visiting, persisting}
use Rattle.volatile.specs.Parts.{slot_put, zeroed_put, filled_put, dirtied_put, cleaned_put, put_length, put_other_word, with_length, with_word}
use Rattle.volatile.specs.Buffer.{buffer_length, flushed_length, pushed_length}
use Rattle.volatile.specs.Cache.{Alone}
use Rattle.volatile.specs.Dirty.{Elsewhere}

module _ (slots k : ℕ) where
  pub record Moved (work work' : List ℕ) : Type 0 where
    pub words : length work' ≡ work_words slots
    pub others : Elsewhere slots k work work'

  moved_then : {work work' work'' : List ℕ} → Moved work work' → Moved work' work'' → Moved work work''
  moved_then x y = record { words = y.words; others = λ j below away. y.others j below away ∙ x.others j below away }

  -- an address that no other slot holds
  pub alone_moved : {work work' : List ℕ} → Moved work work' → (address : ℕ) → Alone work slots k address → Alone work' slots k address
  unfolding holds
  alone_moved x address alone j below away = rw (x.others j below away) (alone j below away)

  -- ---- a work memory of so many slots

  module _ (work : List ℕ) (words : length work ≡ work_words slots) where
    moved_none : Moved work work
    moved_none = record { words = words; others = λ j below away. refl }

    moved_put : (s : Slot) (value : ℕ) → Moved work (slot_put work k s value)
    moved_put s value =
        record {
          words = put_length work k s value ∙ words;
          others = λ j below away. rw (put_other_word work k s value j away);
        }

    moved_with : (buffer : List ℕ) → length buffer ≡ buffer_words → Moved work (with_buffer work buffer)
    moved_with buffer same =
        record {
          words = with_length work buffer (omega arith) same ∙ words;
          others = λ j below away. rw (with_word work buffer (omega arith) same (2 * j) (omega arith));
        }

    moved_flush : (t : Bool) (u : LogState) → Moved work (flushing_if t u work).work
    unfolding flushing_if
    moved_flush true u =
        moved_with (flushed_buffer u (buffer_in work)) (flushed_length u (buffer_in work) ∙ buffer_length work (omega arith))
    moved_flush false u = moved_none

    moved_logged : (u : LogState) (e : Entry) (old : ℕ) → Moved work (logged u work e old)
    unfolding logged
    moved_logged u e old =
        moved_with (pushed (buffer_in work) u.buffered e old)
        (pushed_length (buffer_in work) u.buffered e old ∙ buffer_length work (omega arith))

    -- ---- the line of a slot to the board

    moved_out : (u : LogState) (address value : ℕ) → Moved work (writing_out u work address value).work
    unfolding writing_out
    moved_out u address value = moved_flush (hits (buffer_in work) u.buffered address) u

    moved_back : (u : LogState) → Moved work (writing_back u work k).work
    unfolding writing_back
    moved_back u = go (slot_in work k).dirty
      where
        go : (t : Bool) → Moved work (cond t (writing_out u work (slot_in work k).address (data_in work k)) (nothing u work)).work
        go true = moved_out u (slot_in work k).address (data_in work k)
        go false = moved_none

    moved_cleaned : (address : ℕ) → Moved work (cleaned work k address)
    moved_cleaned address = rw (cleaned_put work k address) (moved_put _ _)

    moved_zeroed : Moved work (zeroed work k)
    moved_zeroed = rw (zeroed_put work k) (moved_put _ _)

    moved_filled : (address line : ℕ) → Moved work (filled work k address line)
    moved_filled address line = rw (filled_put work k address line) (moved_put _ _)

    moved_dirtied : (address epoch value : ℕ) → Moved work (dirtied work k address epoch value)
    moved_dirtied address epoch value = rw (dirtied_put work k address epoch value) (moved_put _ _)

  module _ (work : List ℕ) (words : length work ≡ work_words slots) (u : LogState) where
    pub moved_empty : Moved work (emptying u work k).work
    unfolding emptying
    moved_empty = let x = moved_back work words u in moved_then x (moved_zeroed (writing_back u work k).work x.words)

    moved_bring : (board : List ℕ) (address : ℕ) → Moved work (bringing board u work k address).work
    unfolding bringing
    moved_bring board address =
        moved_then moved_empty (moved_filled (emptying u work k).work moved_empty.words address _)

    -- ---- the calls

    pub moved_load : (board : List ℕ) (address : ℕ) (held : Bool) → Moved work (loading board u work address (record { slot = k; held = held })).work
    unfolding loading
    moved_load board address true = moved_none work words
    moved_load board address false = moved_bring board address

    pub moved_evict : (held : Bool) → Moved work (evicting u work (record { slot = k; held = held })).work
    unfolding evicting
    moved_evict true = moved_empty
    moved_evict false = moved_none work words

    pub moved_persist : (board : List ℕ) (target : ℕ) → Moved work (persisting board u work target).work
    unfolding persisting
    moved_persist board target = moved_flush work words true u

    pub moved_visit : (target : ℕ) → Moved work (visiting u work k target).work
    unfolding visiting cleaning
    moved_visit target = go ((slot_in work k).dirty && leb (slot_in work k).tag target)
      where
        go : (t : Bool) → Moved work (cond t (cleaning u work k) (nothing u work)).work
        go true =
            let x = moved_out work words u (slot_in work k).address (data_in work k) in
            moved_then x (moved_cleaned (writing_out u work (slot_in work k).address (data_in work k)).work x.words (slot_in work k).address)
        go false = moved_none work words

    moved_held : (address epoch value : ℕ) → Moved work (storing_held u work k address epoch value).work
    unfolding storing_held
    moved_held address epoch value = go (entry_due epoch (slot_in work k))
      where
        entered : List ℕ
        entered = logged u work (entry_for u.control.persisted epoch address (slot_in work k)) (data_in work k)

        go : (t : Bool)
            → Moved work
            (cond t (flushing_if (eqb (u.buffered + 1) buffer_places) (counted u) (dirtied entered k address epoch value))
            (nothing u (dirtied work k address epoch value))).work
        go true =
            let x = moved_logged work words u (entry_for u.control.persisted epoch address (slot_in work k)) (data_in work k) in
            let y = moved_then x (moved_dirtied entered x.words address epoch value) in
            moved_then y (moved_flush (dirtied entered k address epoch value) y.words (eqb (u.buffered + 1) buffer_places) (counted u))
        go false = moved_dirtied work words address epoch value

  pub moved_store : (work : List ℕ) → length work ≡ work_words slots → (u : LogState) (board : List ℕ) (address : ℕ) (held : Bool) (epoch value : ℕ)
      → Moved work (storing board u work address (record { slot = k; held = held }) epoch value).work
  unfolding storing
  moved_store work words u board address held epoch value =
      let x = moved_load work words u board address held in
      let l = loading board u work address (record { slot = k; held = held }) in
      moved_then x (moved_held l.work x.words l.undo address epoch value)
