-- The undo buffer as a list of entries, and the tests of it that calls make.
use Rattle.std.specs.Prelude.{ℕ, suc, ◌+◌, ◌*◌, ◌<◌, ◌≤◌, ◌≡◌, refl, Bool, true, false, cond, List, [], ◌∷◌, ◌++◌, eqb, length, get_or, set, replicate}
use Rattle.std.proofs.Common.{sym, ap, ◌∙◌, add-one, arith, length-drop}
use Rattle.std.proofs.Math.ListN.{length-set}
use Rattle.std.proofs.lemmas.List.{length-replicate}
use Rattle.std.proofs.Math.Seq.{get_or-set_same, get_or-set_other}
use Rattle.base.specs.Walk.{all_first}
use Rattle.ranges.specs.Ranges.{proper_range, proper_facts, proper_rebound}
use Rattle.layout.specs.declared.Entry as layout
use Rattle.layout.specs.Laws.{entry_laws}
use Rattle.layout.specs.Limits.{buffer_places}
use Rattle.layout.specs.Memory.{filter_at, buffer_words, buffer_in}
use Rattle.layout.specs.Words.{encode_entry, EntryFits, formed}
use Rattle.undo.specs.Entries.{range_of, proper_word}
use Rattle.undo.specs.declared.LogState.{LogState}
use Rattle.undo.specs.Log.{buffered_in, buffered_proper, buffer_proper, pushed, flushed_buffer}
use Rattle.undo.specs.Marks.{marking_length, marking_before}
use Rattle.base.specs.Every.{Every, every_split, every_map}
use Rattle.history.specs.Invariant.{ProperEntry}
use Rattle.history.specs.Machine.{Entry}
use Rattle.history.proofs.Proper.{entry_facts}
use Rattle.base.specs.Listed.{listed, listed_same, listed_append, every_listed, listed_every}
use Rattle.durable.specs.Recover.{some_formed}
use Rattle.durable.specs.View.{range_if, entry_with, buffered_at, buffer_of}

pub buffer_none : (buffer : List ℕ) → buffer_of buffer 0 ≡ []
unfolding listed
buffer_none buffer = refl

-- one entry more
buffer_next : (buffer : List ℕ) (n : ℕ) → buffer_of buffer (suc n) ≡ buffer_of buffer n ++ (buffered_at buffer n ∷ [])
unfolding listed
buffer_next buffer n =
    let e : n + 0 ≡ n = omega arith in
    ap (buffer_of buffer) (sym (add-one n)) ∙ listed_append (buffered_at buffer) n 1
    ∙ ap (λ (k : ℕ). buffer_of buffer n ++ (buffered_at buffer k ∷ [])) e

-- ---- a claim about every entry

module _ (Q : Entry → Type 0) (buffer : List ℕ) where
  pub every_buffered : (n : ℕ) → ((i : ℕ) → i < n → Q (buffered_at buffer i)) → Every Q (buffer_of buffer n)
  every_buffered n h = every_listed Q (buffered_at buffer) 0 n (λ k least below. h k (omega arith))

  pub buffered_every : (n : ℕ) → Every Q (buffer_of buffer n) → (i : ℕ) → i < n → Q (buffered_at buffer i)
  buffered_every n h i below = listed_every Q (buffered_at buffer) 0 n h i (omega arith) (omega arith)

-- ---- the buffer's words

pub buffer_length : (work : List ℕ) → buffer_words ≤ length work → length (buffer_in work) ≡ buffer_words
buffer_length work within = simp length-drop (omega arith)

pub flushed_length : (u : LogState) (buffer : List ℕ) → length (flushed_buffer u buffer) ≡ length buffer
unfolding flushed_buffer
flushed_length u buffer = go (eqb u.buffered 0)
  where
    go : (t : Bool) → length (cond t buffer (replicate (length buffer) 0)) ≡ length buffer
    go true = refl
    go false = length-replicate (length buffer) 0

-- only the words of the first n entries count
buffer_same : (buffer buffer' : List ℕ) (n : ℕ) → ((i : ℕ) → i < 2 * n → get_or buffer' i 0 ≡ get_or buffer i 0)
    → buffer_of buffer' n ≡ buffer_of buffer n
unfolding buffered_at buffered_in
buffer_same buffer buffer' n same =
    listed_same (buffered_at buffer') (buffered_at buffer) 0 n (λ k least below.
    rw (same (2 * k) (omega arith), same (2 * k + 1) (omega arith)))

-- ---- "An entry goes to the buffer's end"

module _ (buffer : List ℕ) (n : ℕ) (e : layout.Entry) (old : ℕ) where
  -- the entry's two words, before the filter has its bits
  abbrev pub placed : List ℕ
  placed = set (set buffer (2 * n) (encode_entry e)) (2 * n + 1) old

  pub pushed_length : length (pushed buffer n e old) ≡ length buffer
  unfolding pushed
  pushed_length = marking_length placed e.address ∙ simp length-set

  pushed_word : (i : ℕ) → i < filter_at → get_or (pushed buffer n e old) i 0 ≡ get_or placed i 0
  unfolding pushed
  pushed_word = marking_before placed e.address

  module _ (place : n < buffer_places) where
    pub pushed_before : (i : ℕ) → i < 2 * n → get_or (pushed buffer n e old) i 0 ≡ get_or buffer i 0
    pushed_before i below =
        pushed_word i (omega arith)
        ∙ get_or-set_other (set buffer (2 * n) (encode_entry e)) (2 * n + 1) i old 0 (omega arith)
        ∙ get_or-set_other buffer (2 * n) i (encode_entry e) 0 (omega arith)

  module _ (place : n < buffer_places) (words : length buffer ≡ buffer_words) (fits : EntryFits e) where
    pub pushed_entry : buffered_in (pushed buffer n e old) n ≡ e
    unfolding buffered_in
    pushed_entry =
        let kept = get_or-set_other (set buffer (2 * n) (encode_entry e)) (2 * n + 1) (2 * n) old 0 (omega arith) in
        let word = get_or-set_same buffer (2 * n) (encode_entry e) 0 (omega arith) in
        rw (pushed_word (2 * n) (omega arith), kept, word, entry_laws.decode_encode e fits)

    pushed_last : buffered_at (pushed buffer n e old) n ≡ entry_with e old
    unfolding buffered_at
    pushed_last =
        let value = get_or-set_same (set buffer (2 * n) (encode_entry e)) (2 * n + 1) old 0 (simp length-set (omega arith)) in
        rw (pushed_entry, pushed_word (2 * n + 1) (omega arith), value)

    pub pushed_buffer : buffer_of (pushed buffer n e old) (n + 1) ≡ buffer_of buffer n ++ (entry_with e old ∷ [])
    pushed_buffer =
        rw (add-one, buffer_next (pushed buffer n e old) n, buffer_same buffer (pushed buffer n e old) n (pushed_before place), pushed_last)

-- ---- "7 buffer: a buffered entry is not proper"

-- what is read as a proper range is a proper word
read_proper : (lines epoch : ℕ) (e : layout.Entry) → proper_range lines 0 epoch (range_if (formed e) (range_of e)) ≡ true → proper_word lines 0 epoch e ≡ true
unfolding proper_word
read_proper lines epoch e h =
    let says : formed e ≡ true = some_formed (formed e) (range_of e) (proper_facts lines 0 epoch _ h).nonempty in
    rw says (rw says at h)

module _ (buffer : List ℕ) (count lines epoch : ℕ) where
  buffer_proper_holds : Every (λ x. proper_range lines 0 epoch x.range ≡ true) (buffer_of buffer count) → buffer_proper buffer count lines epoch ≡ true
  unfolding buffer_proper buffered_proper buffered_at
  buffer_proper_holds h =
      all_first (buffered_proper buffer lines epoch) count
      (λ i below. read_proper lines epoch (buffered_in buffer i) (buffered_every (λ x. proper_range lines 0 epoch x.range ≡ true) buffer count h i below))

  -- the buffered entries are the last of all entries
  pub entries_buffer_proper : (W low : ℕ) (log : List Entry) → Every (ProperEntry lines W low epoch) (log ++ buffer_of buffer count)
      → buffer_proper buffer count lines epoch ≡ true
  entries_buffer_proper W low log h =
      buffer_proper_holds (every_map (ProperEntry lines W low epoch) (λ x. proper_range lines 0 epoch x.range ≡ true)
      (λ x p. proper_rebound lines low epoch 0 epoch x.range (omega arith) (entry_facts p).before p.proper)
      (buffer_of buffer count) (every_split _ log (buffer_of buffer count) h).1)
