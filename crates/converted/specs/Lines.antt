-- The lines that a recovery leaves, by the ranges of the log's entries: a line is what the log says of it.
use Prim.Native.Nat.{ℕ, ◌+◌, ◌<◌, ◌≤◌}
use Rattle.std.specs.Prelude.{◌≡◌, true, length, get_or}
use Rattle.std.proofs.Math.Path.{refl, ap}
use Rattle.std.proofs.Common.{sym, ◌∙◌, arith, get_or-set_same, get_or-set_other}
use mathlib.Core.List.{List, [], ◌∷◌, map}
use Rattle.std.proofs.Math.ListN.{set, length-set}
use Rattle.base.specs.Cases.{here_or_there, update, update_same, update_other}
use Rattle.base.specs.Every.{Every}
use Rattle.base.specs.Listed.{every_listed}
use Rattle.board.specs.Stores.{applied}
use Rattle.undo.specs.Laws.{proper_named}
use Rattle.undo.specs.Recovery.{Log, proper_at, restore_all}
use Rattle.history.specs.Machine.{Entry, recall}
use Rattle.history.specs.Restore.{due, patched}
use Rattle.history.proofs.Restore.{patched_due, due_every}
use Rattle.durable.specs.View.{entry_of, entries_of}
use Rattle.durable.specs.Recover.{line_store, restore_all_due}

module _ (line_at N : ℕ) where
  -- the lines of a memory
  abbrev lines_in : List ℕ → ℕ → ℕ
  lines_in memory a = get_or memory (line_at + a) 0

  stored_line : (memory : List ℕ) (a v : ℕ) → a < N → line_at + N ≤ length memory → (b : ℕ) → lines_in (set memory (line_at + a) v) b ≡ update (lines_in memory) a v b
  stored_line memory a v inside words =
      here_or_there a (λ b. lines_in (set memory (line_at + a) v) b ≡ update (lines_in memory) a v b)
      (get_or-set_same memory (line_at + a) v 0 (omega arith) ∙ sym (update_same (lines_in memory) a v))
      (λ b away. get_or-set_other memory (line_at + a) (line_at + b) v 0 (omega arith) ∙ sym (update_other (lines_in memory) a v b away))

  stored_lines : (xs : List Entry) (memory : List ℕ) → Every (λ x. x.range.address < N) xs → line_at + N ≤ length memory
      → (a : ℕ) → lines_in (applied memory (map (line_store line_at) xs)) a ≡ patched xs (lines_in memory) a
  unfolding applied patched
  stored_lines [] memory named words a = refl
  stored_lines (x ∷ xs) memory named words a =
      let next = set memory (line_at + x.range.address) x.old in
      stored_lines xs next named.1 (rw length-set words) a
      ∙ ap (λ (lines : ℕ → ℕ). patched xs lines a) (λ i b. stored_line memory x.range.address x.old named.0 words b i)

  module _ (log : Log) (formed : (i : ℕ) → log.formed i ≡ true) (proper : (i : ℕ) → i < log.count → proper_at log N i ≡ true) where
    named : Every (λ x. x.range.address < N) (entries_of log)
    unfolding entry_of
    named = every_listed (λ x. x.range.address < N) (entry_of log) 0 log.count (λ i lo hi. proper_named log N i (proper i (omega arith)))

    pub recovered_line : (memory : List ℕ) → line_at + N ≤ length memory → (a : ℕ)
        → lines_in (applied memory (restore_all log line_at)) a ≡ recall (entries_of log) log.persisted a (lines_in memory a)
    recovered_line memory words a =
        let P = log.persisted in
        let entries = entries_of log in
        ap (λ ss. lines_in (applied memory ss) a) (restore_all_due log line_at (λ i below. formed i))
        ∙ stored_lines (due P entries) memory (due_every (λ x. x.range.address < N) P entries named) words a
        ∙ patched_due P entries (lines_in memory) a
