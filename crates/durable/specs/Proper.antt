-- What power-up asks of the log it finds, from what the crash invariant says of it. Assumes nothing.
use Prim.Native.Nat.{ℕ, zero, suc, ◌+◌, ◌≤◌, ◌<◌}
use Rattle.std.specs.Prelude.{◌≡◌, List}
use Rattle.std.proofs.Common.{◌∙◌}
use Rattle.std.proofs.Math.Bool.{true}
use Rattle.std.proofs.Math.Nat.{zero-add}
use native.Mathlib.Omega.{arith}
use borrow.Author.Tests.{lt-ltb}
use Rattle.base.specs.Walk.{first_from, first_all}
use Rattle.ranges.specs.Ranges.{proper_rebound}
use Rattle.layout.specs.Limits.{most_ahead}
use Rattle.undo.specs.declared.LogState.{LogState}
use Rattle.undo.specs.Entries.{proper_entry}
use Rattle.undo.specs.Recovery.{Log, older_till, proper_at, first_improper}
use Rattle.undo.specs.Log.{log_in}
use Rattle.base.specs.Every.{Every, every_map}
use Rattle.history.specs.Machine.{Entry, Durable}
use Rattle.history.specs.Invariant.{ProperEntry, ProperLog}
use Rattle.history.proofs.Proper.{entry_facts, proper_every}
use Rattle.base.specs.Listed.{listed}
use Rattle.durable.specs.View.{entry_of, entries_of, Reads}
use Rattle.durable.specs.Reads.{reads_persisted, reads_log}
use Rattle.durable.specs.Recover.{Restorable, some_formed}

-- each entry names a line, and its range is not empty
pub proper_restorable : (N W low high : ℕ) (log : List Entry) → ProperLog N W low high log → Every (Restorable N) log
proper_restorable N W low high log p =
    every_map (ProperEntry N W low high) (Restorable N) (λ x e. record { named = (entry_facts e).inside; some = (entry_facts e).nonempty }) log
    (proper_every N W low high log p)

-- ---- whatever the log's words

module _ (N W : ℕ) (log : Log) where
  -- from entry i on, where `low` bounds the tills of the older ones
  proper_from : (low i n : ℕ) → i + n ≤ log.count → log.persisted < low → older_till log i ≤ low
      → ProperLog N W low (log.persisted + most_ahead) (listed (entry_of log) i n) → first_from (proper_at log N) i n ≡ i + n
  unfolding listed entry_of first_from proper_at proper_entry older_till
  proper_from low i zero within late older p = omega arith
  proper_from low i (suc n) within late older p =
      let r = log.range i in
      let high = log.persisted + most_ahead in
      let f = entry_facts p.0 in
      let formed : log.formed i ≡ true = some_formed (log.formed i) r f.nonempty in
      rw (
        formed,
        lt-ltb log.persisted r.till (omega (arith, f.after)),
        proper_rebound N low high (older_till log i) high r (omega (arith, f.after)) f.before (rw formed at p.0.proper),
      )
      (proper_from r.till (suc i) n (omega arith) (omega (arith, f.after)) (omega arith) p.1 ∙ omega arith)

  -- no entry is found improper
  pub proper_passes : ProperLog N W (suc log.persisted) (log.persisted + most_ahead) (entries_of log) → first_improper log N ≡ log.count
  unfolding first_improper older_till
  proper_passes p = proper_from (suc log.persisted) 0 log.count (omega arith) (omega arith) (omega arith) p ∙ zero-add log.count

-- ---- on the board

pub reads_passes : {N L : ℕ} {board : List ℕ} {d : Durable} (u : LogState) → Reads N L board u.control d → u.entries ≡ L
    → (W : ℕ) → ProperLog N W (suc d.persisted) (d.persisted + most_ahead) d.log → first_improper (log_in board u) N ≡ u.control.length
reads_passes {N} {L} {board} u r same W p =
    proper_passes N W (log_in board u) (rw (reads_log u r same, reads_persisted r) p)

-- so each is proper
pub reads_proper : {N L : ℕ} {board : List ℕ} {d : Durable} (u : LogState) → Reads N L board u.control d → u.entries ≡ L
    → (W : ℕ) → ProperLog N W (suc d.persisted) (d.persisted + most_ahead) d.log
    → (i : ℕ) → i < u.control.length → proper_at (log_in board u) N i ≡ true
unfolding first_improper
reads_proper {N} {board = board} u r same W p i h =
    first_all (proper_at (log_in board u) N) u.control.length (omega (arith, reads_passes u r same W p)) i h
