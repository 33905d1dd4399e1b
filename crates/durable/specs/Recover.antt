-- Recovery: the stores to the lines are those of the abstract power-up, one for one, newest entry first; then the control word
-- empties the log. So a cut after k stores leaves the lines of the first k. Assumes nothing.
use Prim.Native.Nat.{ℕ, zero, suc, ◌+◌, ◌-◌, ◌≤◌, ◌<◌}
use Rattle.std.specs.Prelude.{◌≡◌, Bool, List, [], ◌∷◌, ◌++◌, map, length, take}
use Rattle.std.proofs.Math.Path.{refl}
use Rattle.std.proofs.Math.Bool.{true, false}
use Rattle.std.proofs.lemmas.List.{map-append, take-append-le}
use Rattle.std.proofs.Common.{append-nil, length-append}
use native.Mathlib.Omega.{arith}
use Rattle.board.specs.Stores.{Store, one, applied, each}
use Rattle.board.specs.Laws.{applied_append}
use Rattle.ranges.specs.Ranges.{Range, covers}
use Rattle.layout.specs.declared.Control.{Control}
use Rattle.layout.specs.Memory.{control_at, lines_at}
use Rattle.layout.specs.Words.{encode_control}
use Rattle.undo.specs.declared.LogState.{LogState}
use Rattle.undo.specs.Recovery.{Log, restore_stores, restore_turn, restore_all}
use Rattle.undo.specs.Log.{log_in, emptied, recover_stores}
use Rattle.base.specs.Every.{Every, every_map, every_take}
use Rattle.history.specs.Machine.{Entry, Durable, cleared, written}
use Rattle.history.specs.Restore.{due, patched, patched_by, restored_all, restored_part}
use Rattle.history.proofs.Restore.{due_every}
use Rattle.base.specs.Listed.{listed, listed_every}
use Rattle.durable.specs.Stores.{take_map}
use Rattle.durable.specs.View.{range_if, entry_of, entries_of, Reads}
use Rattle.durable.specs.Reads.{reads_bounded, reads_as, reads_with, reads_persisted, reads_log}
use Rattle.durable.specs.Seen.{line_reads, control_reads}

-- ---- the stores to the lines

abbrev pub line_store : (line_at : ℕ) → Entry → Store
line_store line_at x = record { at = line_at + x.range.address; word = x.old }

-- an entry that recovery can restore: it names a line, and its range is not empty
pub record Restorable (N : ℕ) (x : Entry) : Type 0 where
  pub named : x.range.address < N
  pub some : x.range.from < x.range.till

-- only an entry whose word says a range is read as one that is not empty
pub some_formed : (formed : Bool) (r : Range) → (range_if formed r).from < r.till → formed ≡ true
some_formed true r h = refl
some_formed false r h = absurd (omega arith)

pub restorable_formed : (N : ℕ) (log : Log) → Every (Restorable N) (entries_of log) → (i : ℕ) → i < log.count → log.formed i ≡ true
unfolding entry_of
restorable_formed N log h i below =
    some_formed (log.formed i) (log.range i) (listed_every (Restorable N) (entry_of log) 0 log.count h i (omega arith) (omega arith)).some

-- whatever the log's words
module _ (log : Log) (line_at : ℕ) (formed : (i : ℕ) → i < log.count → log.formed i ≡ true) where
  -- what the abstract power-up does of the entries xs
  abbrev due_stores : List Entry → List Store
  due_stores xs = map (line_store line_at) (due log.persisted xs)

  -- one entry more, older than those
  restore_due : (i : ℕ) (xs : List Entry) → i < log.count → due_stores xs ++ restore_stores log line_at i ≡ due_stores (entry_of log i ∷ xs)
  unfolding restore_stores due entry_of
  restore_due i xs below = rw (formed i below) (go (covers (log.range i) log.persisted) refl)
    where
      go : (t : Bool) → covers (log.range i) log.persisted ≡ t
          → due_stores xs ++ restore_stores log line_at i ≡ due_stores (record { range = log.range i; old = log.old i } ∷ xs)
      go true e = rw (e, map-append)
      go false e = rw (e, append-nil)

  -- after j turns the newest j entries have been looked at
  turns_due : (j : ℕ) → j ≤ log.count → each (restore_turn log line_at) j ≡ due_stores (listed (entry_of log) (log.count - j) j)
  unfolding each listed restore_turn due
  turns_due zero within = refl
  turns_due (suc j) within =
      let i : ℕ = log.count - suc j in
      let this : log.count - (j + 1) ≡ i = omega arith in
      let next : log.count - j ≡ suc i = omega arith in
      rw (turns_due j (omega arith), this, next) (restore_due i (listed (entry_of log) (suc i) j) (omega arith))

  pub restore_all_due : restore_all log line_at ≡ map (line_store line_at) (due log.persisted (entries_of log))
  restore_all_due = let start : log.count - log.count ≡ 0 = omega arith in rw (turns_due log.count (omega arith), start)

-- stores to lines, in any order
pub lines_read : {N L : ℕ} {board : List ℕ} {c : Control} {d : Durable} → Reads N L board c d
    → (xs : List Entry) → Every (λ x. x.range.address < N) xs → Reads N L (applied board (map (line_store (lines_at L)) xs)) c (patched_by xs d)
unfolding applied patched
lines_read r [] named = r
lines_read {N} {L} {board} {c} {d} r (x ∷ xs) named =
    lines_read {N = N} {L = L} {board = applied board (one (lines_at L + x.range.address) x.old)} {c = c} {d = written d x.range.address x.old}
    (line_reads r x.range.address x.old named.0) xs named.1

-- ---- recovery

module _ {N L : ℕ} {board : List ℕ} {d : Durable} (u : LogState) (r : Reads N L board u.control d) (same : u.entries ≡ L)
    (restorable : Every (Restorable N) d.log) where
  abbrev restored : List Entry
  restored = due d.persisted d.log

  abbrev lines : List Store
  lines = map (line_store (lines_at L)) restored

  abbrev last : List Store
  last = one control_at (encode_control (emptied u.control))

  restored_named : Every (λ x. x.range.address < N) restored
  restored_named =
      due_every (λ x. x.range.address < N) d.persisted d.log
      (every_map (Restorable N) (λ x. x.range.address < N) (λ x h. h.named) d.log restorable)

  formed : (i : ℕ) → i < u.control.length → (log_in board u).formed i ≡ true
  formed = restorable_formed N (log_in board u) (rw (reads_log u r same) restorable)

  recover_stores_holds : recover_stores board u ≡ lines ++ last
  unfolding recover_stores
  recover_stores_holds =
      rw (restore_all_due (log_in board u) (lines_at u.entries) formed, reads_log u r same, same, reads_persisted r)

  -- cut before the control word
  pub recover_cut : (k : ℕ) → k < length (recover_stores board u)
      → Reads N L (applied board (take k (recover_stores board u))) u.control (restored_part k d)
  recover_cut k h =
      let within : k ≤ length lines = omega (arith, simp (recover_stores_holds, length-append) at h) in
      rw (recover_stores_holds, take-append-le k lines last within, take_map)
      (lines_read r (take k restored) (every_take (λ x. x.range.address < N) k restored restored_named))

  -- whole
  pub recover_reads : Reads N L (applied board (recover_stores board u)) (emptied u.control) (cleared (restored_all d))
  unfolding listed
  recover_reads =
      let ready = lines_read r restored restored_named in
      let was = reads_with ready in
      rw (recover_stores_holds, applied_append)
      (reads_as (control_reads ready.sized (emptied u.control) (omega (arith, reads_bounded r, r.sized.sizes)))
      (λ i. record { persisted = (was i).persisted; log = []; memory = (was i).memory }))
