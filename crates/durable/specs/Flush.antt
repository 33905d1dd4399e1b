-- A flush: the buffered entries go to free places of the ring, where nothing is seen of them; then the control word makes them the
-- log's. So a cut before the last store leaves the board reading as before. Assumes nothing.
use Prim.Native.Nat.{ℕ, zero, suc, ◌+◌, ◌*◌, ◌≤◌, ◌<◌}
use Rattle.std.specs.Prelude.{◌≡◌, set, take}
use Rattle.std.proofs.Common.{sym, ◌∙◌, eq-eqb, ne_eqb, length-append, get_or-set_other}
use Rattle.std.proofs.Math.Path.{ap, ap₂}
use mathlib.Core.List.{List, [], ◌++◌, append-nil}
use native.Mathlib.Omega.{arith}
use Rattle.std.proofs.Math.ListN.{length, get_or, length-set}
use Rattle.std.proofs.Math.Seq.{get_or-set_same}
use Rattle.std.proofs.lemmas.List.{take-append-le}
use Rattle.board.specs.Stores.{Store, one, applied, each, shifted}
use Rattle.board.specs.Laws.{applied_append, length_applied}
use Rattle.board.specs.Parts.{shifted_append}
use Rattle.layout.specs.Memory.{control_at, log_at, lines_at}
use Rattle.layout.specs.Words.{encode_control, decode_entry}
use Rattle.undo.specs.declared.LogState.{LogState}
use Rattle.undo.specs.Log as undo
use Rattle.undo.specs.Log.{place_of, entry_in, old_in, buffered_in, entry_stores, flush_stores}
use Rattle.base.specs.Every.{Every, every_append, every_take}
use Rattle.history.specs.Machine.{Entry, Durable, Volatile, flushed}
use Rattle.base.specs.Cases.{below_or_not}
use Rattle.base.specs.Listed.{listed, listed_same, listed_append}
use Rattle.durable.specs.View.{undo_with, entry_of, entry_at, entry_with, log_of, buffered_at, buffer_of, Reads}
use Rattle.durable.specs.Log.{WordOf, Free, word_before, words_apart, entry_same}
use Rattle.durable.specs.Reads.{reads_bounded, reads_as, reads_with, reads_log}
use Rattle.durable.specs.Seen.{free_reads, control_reads}

-- ---- one entry's two stores

abbrev stored : List ℕ → LogState → (i word old : ℕ) → List ℕ
stored board u i word old = set (set board (log_at + place_of u i) word) (log_at + (place_of u i + 1)) old

module _ (board : List ℕ) (u : LogState) (i word old : ℕ) where
  stored_here : 0 < u.entries → lines_at u.entries ≤ length board
      → entry_at (stored board u i word old) u i ≡ entry_with (decode_entry word) old
  unfolding entry_of entry_in old_in
  stored_here some room =
      let at : ℕ = log_at + place_of u i in
      let second : log_at + (place_of u i + 1) ≡ at + 1 = omega arith in
      let inside : at + 1 < lines_at u.entries = word_before u i (at + 1) some (omega arith) in
      rw second (ap₂ (λ (w d : ℕ). entry_with (decode_entry w) d)
      (get_or-set_other (set board at word) (at + 1) at old 0 (omega arith) ∙ get_or-set_same board at word 0 (omega arith))
      (get_or-set_same (set board at word) (at + 1) old 0 (simp length-set (omega arith))))

  stored_away : (j : ℕ) → j < i → i < j + u.entries → entry_at (stored board u i word old) u j ≡ entry_at board u j
  stored_away j lo hi = entry_same board (stored board u i word old) u j (λ p w.
      let off : WordOf u i p → ⊥ = words_apart u j i p lo hi w in
      get_or-set_other (set board (log_at + place_of u i) word) (log_at + (place_of u i + 1)) p old 0 (λ e. off (omega arith))
      ∙ get_or-set_other board (log_at + place_of u i) p word 0 (λ e. off (omega arith)))

-- ---- the stores of the first n entries

abbrev ring_stores : LogState → List ℕ → ℕ → List Store
ring_stores u buffer n = shifted log_at (each (entry_stores u buffer) n)

module _ (u : LogState) (buffer : List ℕ) where
  ring_next : (n : ℕ) → ring_stores u buffer (suc n) ≡ ring_stores u buffer n ++ shifted log_at (entry_stores u buffer n)
  unfolding each
  ring_next n = shifted_append log_at (each (entry_stores u buffer) n) (entry_stores u buffer n)

  ring_free : (n : ℕ) → u.control.length + n ≤ u.entries → Every (λ s. Free u s.at) (ring_stores u buffer n)
  unfolding each shifted entry_stores
  ring_free zero room = tt
  ring_free (suc n) room =
      let i : ℕ = u.control.length + n in
      let free : (p : ℕ) → WordOf u i p → Free u p =
      λ p w. record { entry = i; behind = omega arith; within = omega arith; word = w } in
      rw (ring_next n) (every_append (λ s. Free u s.at) (ring_stores u buffer n) (shifted log_at (entry_stores u buffer n))
      (ring_free n (omega arith))
      (free (log_at + place_of u i) (omega arith), (free (log_at + (place_of u i + 1)) (omega arith), tt)))

  module _ (board : List ℕ) (some : 0 < u.entries) (room : lines_at u.entries ≤ length board) where
    abbrev ring : ℕ → List ℕ
    ring n = applied board (ring_stores u buffer n)

    ring_stored : (n : ℕ)
        → ring (suc n) ≡ stored (ring n) u (u.control.length + n) (get_or buffer (2 * n) 0) (get_or buffer (2 * n + 1) 0)
    unfolding applied shifted entry_stores
    ring_stored n = rw (ring_next n, applied_append)

    -- the ring has the buffer's entries, behind the log's
    ring_buffered : (n k : ℕ) → u.control.length + n ≤ u.entries → k < n
        → entry_at (ring n) u (u.control.length + k) ≡ buffered_at buffer k
    unfolding buffered_at buffered_in
    ring_buffered zero k fits h = absurd (omega arith)
    ring_buffered (suc n) k fits h =
        let i : ℕ = u.control.length + n in
        let word : ℕ = get_or buffer (2 * n) 0 in
        let old : ℕ = get_or buffer (2 * n + 1) 0 in
        rw (ring_stored n) (below_or_not k n
        (λ earlier. stored_away (ring n) u i word old (u.control.length + k) (omega arith) (omega arith)
        ∙ ring_buffered n k (omega arith) earlier)
        (λ late. let same : k ≡ n = omega arith in rw same (stored_here (ring n) u i word old some (rw length_applied room))))

-- ---- the flush

module _ {N L : ℕ} {board : List ℕ} {d : Durable} (u : LogState) (r : Reads N L board u.control d) (same : u.entries ≡ L)
    (room : u.control.length + u.buffered ≤ u.entries) (buffer : List ℕ) where
  abbrev entries : List Store
  entries = ring_stores u buffer u.buffered

  abbrev last : List Store
  last = one control_at (encode_control (undo.flushed u).control)

  stores_none : u.buffered ≡ 0 → flush_stores u buffer ≡ []
  unfolding flush_stores
  stores_none none = rw (eq-eqb u.buffered 0 none)

  stores_some : 0 < u.buffered → flush_stores u buffer ≡ entries ++ last
  unfolding flush_stores
  stores_some some = rw (ne_eqb u.buffered 0 (omega arith))

  entries_free : Every (λ s. Free u s.at) entries
  entries_free = ring_free u buffer u.buffered room

  -- ---- cut before the control word

  cut_some : (k : ℕ) → k ≤ length entries → Reads N L (applied board (take k (entries ++ last))) u.control d
  cut_some k within = rw (take-append-le k entries last within)
      (free_reads u r same (take k entries) (every_take (λ s. Free u s.at) k entries entries_free))

  pub flush_cut : (k : ℕ) → k < length (flush_stores u buffer)
      → Reads N L (applied board (take k (flush_stores u buffer))) u.control d
  flush_cut k h = below_or_not 0 u.buffered
      (λ some. rw (stores_some some) (cut_some k (omega (arith, simp (stores_some some, length-append) at h))))
      (λ none. absurd (omega (arith, rw (stores_none (omega arith)) at h)))

  -- ---- whole

  -- with all but the control word
  abbrev ready : List ℕ
  ready = applied board entries

  ready_reads : Reads N L ready u.control d
  ready_reads = free_reads u r same entries entries_free

  ready_log : log_of ready (undo_with (undo.flushed u).control L) ≡ d.log ++ buffer_of buffer u.buffered
  unfolding undo.flushed entry_of entry_in old_in place_of
  ready_log = rw (← same) (listed_append (entry_at ready u) u.control.length u.buffered
      ∙ ap₂ (λ (xs ys : List Entry). xs ++ ys) (reads_log u ready_reads same)
      (listed_same (λ k. entry_at ready u (u.control.length + k)) (buffered_at buffer) 0 u.buffered
      (λ k lo hi. ring_buffered u buffer board (omega (arith, r.sized.sizes)) (omega (arith, r.sized.words)) u.buffered k room (omega arith))))

  module _ (w : Volatile) (buffered : w.buffer ≡ buffer_of buffer u.buffered) where
    reads_none : u.buffered ≡ 0 → Reads N L board (undo.flushed u).control (flushed d w)
    unfolding undo.flushed listed
    reads_none none =
        let count : u.control.length ≡ u.control.length + u.buffered = omega arith in
        let log : d.log ≡ d.log ++ w.buffer = rw (buffered, none, append-nil) in
        record {
          sized = r.sized;
          control = r.control ∙ (λ i. record { persisted = u.control.persisted; start = u.control.start; length = count i });
          durable = r.durable ∙ (λ i. record { persisted = d.persisted; log = log i; memory = d.memory });
        }

    reads_some : Reads N L (applied ready last) (undo.flushed u).control (flushed d w)
    unfolding undo.flushed
    reads_some =
        let log = ready_log ∙ ap (λ (xs : List Entry). d.log ++ xs) (sym buffered) in
        let was = reads_with ready_reads in
        reads_as (control_reads ready_reads.sized (undo.flushed u).control (omega (arith, reads_bounded r)))
        (λ i. record { persisted = (was i).persisted; log = log i; memory = (was i).memory })

    pub flush_reads : Reads N L (applied board (flush_stores u buffer)) (undo.flushed u).control (flushed d w)
    unfolding applied
    flush_reads = below_or_not 0 u.buffered
        (λ some. rw (stores_some some, applied_append) reads_some)
        (λ none. rw (stores_none (omega arith)) (reads_none (omega arith)))
