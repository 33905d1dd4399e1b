-- The filter of a controller at work is exactly the bits of the buffered entries: so a write-out that does not flush leaves no entry behind
-- that tells its line, and no buffered entry lacks a bit.
use Prim.Native.Nat.{ℕ, zero, suc, ◌+◌, ◌*◌, ◌<◌, ◌≤◌}
use Rattle.std.specs.Prelude.{◌≡◌, refl, ◌≢◌, Bool, false, cond, ◌||◌, List, eqb, length, get_or, set, replicate}
use Rattle.std.proofs.Common.{sym, ap₂, ◌∙◌, add-one, arith, eqb-true, lt-ltb, get_or-drop}
use Rattle.std.proofs.Math.Path.{ap}
use Rattle.std.proofs.Math.Bool.{true, or-true, false≢true}
use Rattle.std.proofs.Math.ListN.{length-set}
use Rattle.base.specs.Cases.{here_or_there}
use Rattle.base.specs.Tests.{and_true}
use Rattle.base.specs.Walk.{all_first}
use Rattle.layout.specs.declared.Entry as layout
use Rattle.layout.specs.Limits.{buffer_places, filter_size}
use Rattle.layout.specs.Memory.{buffer_words, buffer_at, buffer_in, with_buffer, work_words}
use Rattle.layout.specs.Words.{encode_entry, EntryFits}
use Rattle.undo.specs.declared.LogState.{LogState}
use Rattle.undo.specs.Filter.{first_bit, second_bit, is_bit_of, bit_place, is_set, marks, hits}
use Rattle.undo.specs.Log.{buffered_in, is_bit_buffered, buffered_marked, buffer_marked, pushed, flushed_buffer}
use Rattle.undo.specs.Marks.{first_below, second_below, own_first, own_second, marking_bit, set_before, zero_bit}
use Rattle.history.specs.Machine.{Silent}
use Rattle.history.proofs.Recall.{silent_away}
use Rattle.durable.specs.View.{buffered_at, buffer_of}
use Rattle.slots.specs.declared.Bounds.{Bounds}
use Rattle.steps.specs.Effects.{logged}
use Rattle.volatile.specs.Buffer.{every_buffered, buffer_length, flushed_length, placed, pushed_length, pushed_before, pushed_entry}
use Rattle.volatile.specs.Parts.{with_buffer_holds}
use Rattle.volatile.specs.Slotted.{Slotted, zero_work}

-- each bit is set exactly if it is one of those of the first count entries
abbrev pub Exact : (buffer : List ℕ) → (count : ℕ) → Type 0
Exact buffer count = (i : ℕ) → i < filter_size → is_set buffer i ≡ is_bit_buffered buffer count i

-- ---- what calls do to it

-- only the words of the first n entries count
bit_same : (buffer buffer' : List ℕ) (n : ℕ) → ((j : ℕ) → j < 2 * n → get_or buffer' j 0 ≡ get_or buffer j 0) → (i : ℕ)
    → is_bit_buffered buffer' n i ≡ is_bit_buffered buffer n i
unfolding is_bit_buffered buffered_in
bit_same buffer buffer' zero same i = refl
bit_same buffer buffer' (suc n) same i =
    ap₂ ◌||◌ (bit_same buffer buffer' n (λ j h. same j (omega arith)) i) (rw (same (2 * n) (omega arith)))

-- power-up, and a flush: no entry, and no bit
zero_word : (n i : ℕ) → ◌≡◌ {A = ℕ} (get_or (replicate n 0) i 0) 0
zero_word zero i = refl
zero_word (suc n) zero = refl
zero_word (suc n) (suc i) = zero_word n i

exact_none : (buffer : List ℕ) → ((i : ℕ) → get_or buffer i 0 ≡ 0) → Exact buffer 0
unfolding is_bit_buffered
exact_none buffer none i h = zero_bit buffer i (none (bit_place i))

pub exact_restarted : (slots : ℕ) → Exact (buffer_in (zero_work slots)) 0
exact_restarted slots =
    let work = zero_work slots in
    exact_none (buffer_in work) (λ i. get_or-drop (buffer_at (length work)) work i 0 ∙ zero_word (work_words slots) (buffer_at (length work) + i))

exact_flushed : (u : LogState) (buffer : List ℕ) → Exact buffer u.buffered → Exact (flushed_buffer u buffer) 0
unfolding flushed_buffer
exact_flushed u buffer exact = go (eqb u.buffered 0) refl
  where
    go : (t : Bool) → eqb u.buffered 0 ≡ t → Exact (cond t buffer (replicate (length buffer) 0)) 0
    go true e = let none : u.buffered ≡ 0 = eqb-true u.buffered 0 e in rw none at exact
    go false e = exact_none (replicate (length buffer) 0) (zero_word (length buffer))

-- a new entry
module _ (buffer : List ℕ) (n : ℕ) (e : layout.Entry) (old : ℕ) (place : n < buffer_places) (words : length buffer ≡ buffer_words) (fits : EntryFits e) where
  pushed_bit : (i : ℕ) → i < filter_size → is_set (pushed buffer n e old) i ≡ is_set buffer i || is_bit_of e.address i
  unfolding pushed
  pushed_bit i h =
      marking_bit (placed buffer n e old) e.address (simp length-set words) i h
      ∙ ap (λ (t : Bool). t || is_bit_of e.address i)
      (set_before (set buffer (2 * n) (encode_entry e)) (2 * n + 1) old i (omega arith) ∙ set_before buffer (2 * n) (encode_entry e) i (omega arith))

  exact_pushed : Exact buffer n → Exact (pushed buffer n e old) (n + 1)
  unfolding is_bit_buffered
  exact_pushed exact i h =
      pushed_bit i h
      ∙ rw (add-one, pushed_entry buffer n e old place words fits, bit_same buffer (pushed buffer n e old) n (pushed_before buffer n e old place) i, exact i h)

-- the same of the work memory
module _ {b : Bounds} {work : List ℕ} (slotted : Slotted b work) (u : LogState) (exact : Exact (buffer_in work) u.buffered) where
  within : buffer_words ≤ length work
  within = omega (arith, slotted.words)

  words : length (buffer_in work) ≡ buffer_words
  words = buffer_length work within

  pub flushed_exact : Exact (buffer_in (with_buffer work (flushed_buffer u (buffer_in work)))) 0
  flushed_exact =
      rw (with_buffer_holds work (flushed_buffer u (buffer_in work)) within (flushed_length u (buffer_in work) ∙ words))
      (exact_flushed u (buffer_in work) exact)

  pub logged_exact : (e : layout.Entry) (old : ℕ) → u.buffered < buffer_places → EntryFits e
      → Exact (buffer_in (logged u work e old)) (u.buffered + 1)
  unfolding logged
  logged_exact e old place fits =
      rw (with_buffer_holds work (pushed (buffer_in work) u.buffered e old) within (pushed_length (buffer_in work) u.buffered e old ∙ words))
      (exact_pushed (buffer_in work) u.buffered e old place words fits exact)

-- ---- what it tells

module _ (buffer : List ℕ) (count : ℕ) (exact : Exact buffer count) where
  -- a bit of a buffered entry is among them
  bit_buffered : (n k i : ℕ) → k < n → is_bit_of (buffered_in buffer k).address i ≡ true → is_bit_buffered buffer n i ≡ true
  unfolding is_bit_buffered
  bit_buffered zero k i h own = absurd (omega arith)
  bit_buffered (suc n) k i h own =
      here_or_there n (λ j. j < suc n → is_bit_of (buffered_in buffer j).address i ≡ true → is_bit_buffered buffer n i || is_bit_of (buffered_in buffer n).address i ≡ true)
      (λ _ own. rw (own, or-true))
      (λ j away below own. rw (bit_buffered n j i (omega arith) own))
      k h own

  own_set : (k i : ℕ) → k < count → i < filter_size → is_bit_of (buffered_in buffer k).address i ≡ true → is_set buffer i ≡ true
  own_set k i h small own = exact i small ∙ bit_buffered count k i h own

  exact_marks : (k : ℕ) → k < count → marks buffer (buffered_in buffer k).address ≡ true
  unfolding marks
  exact_marks k h =
      let a = (buffered_in buffer k).address in
      and_true _ _ (own_set k (first_bit a) h (first_below a) (own_first a)) (own_set k (second_bit a) h (second_below a) (own_second a))

  -- "14 filter, a buffered entry with either bit unset": there is none
  pub exact_marked : buffer_marked buffer count ≡ true
  unfolding buffer_marked buffered_marked
  exact_marked = all_first (buffered_marked buffer) count exact_marks

  -- "A write-out flushes exactly when b > 0 and both bits of its address are set": one that does not is of a line that no entry tells
  module _ (address : ℕ) (miss : hits buffer count address ≡ false) where
    missed_elsewhere : (k : ℕ) → k < count → (buffered_in buffer k).address ≢ address
    unfolding hits
    missed_elsewhere k h same =
        false≢true (sym miss ∙ and_true _ _ (lt-ltb 0 count (omega arith)) (rw (← same) (exact_marks k h)))

    pub missed_silent : (epoch : ℕ) → Silent (buffer_of buffer count) epoch address
    unfolding buffered_at
    missed_silent epoch =
        silent_away (buffer_of buffer count) epoch address
        (every_buffered (λ x. x.range.address ≢ address) buffer count missed_elsewhere)
