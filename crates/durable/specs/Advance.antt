-- An advance of the persisted epoch: one control word, which drops the oldest run of ended entries. Assumes nothing.
use Rattle.std.specs.Prelude.{ℕ, zero, suc, ◌+◌, ◌-◌, ◌≤◌, ◌<◌, ◌≡◌, refl, Bool, true, false, List, leb, drop}
use Rattle.std.proofs.Common.{sym, ap, ◌∙◌, zero-add, add_assoc, mod-lt, arith}
use Rattle.std.proofs.Math.Nat.{mod-add-mod}
use Rattle.base.specs.Walk.{first_from}
use Rattle.board.specs.Stores.{applied}
use Rattle.layout.specs.Limits.{last_epoch}
use Rattle.layout.specs.Sizes.{Bounded}
use Rattle.undo.specs.declared.LogState.{LogState}
use Rattle.undo.specs.Log as undo
use Rattle.undo.specs.Log.{place_of, entry_in, old_in, expired, dropped, advance_stores}
use Rattle.history.specs.Machine.{Durable, ended, drop_ended, advanced}
use Rattle.history.proofs.Recall.{ended_le}
use Rattle.base.specs.Listed.{listed, length_listed, listed_same, listed_drop}
use Rattle.durable.specs.View.{undo_with, entry_of, entry_at, log_of, Reads}
use Rattle.durable.specs.Reads.{reads_bounded, reads_as, reads_with, reads_log}
use Rattle.durable.specs.Seen.{control_reads}

-- ---- the run of ended entries

dropped_from : (board : List ℕ) (u : LogState) (target i n : ℕ)
    → first_from (expired board u target) i n ≡ i + ended target (listed (entry_at board u) i n)
unfolding first_from expired ended listed entry_of
dropped_from board u target i zero = omega arith
dropped_from board u target i (suc n) = go (leb (entry_in board u i).till target) refl (dropped_from board u target (suc i) n)
  where
    go : (t : Bool) → leb (entry_in board u i).till target ≡ t
        → first_from (expired board u target) (suc i) n ≡ suc i + ended target (listed (entry_at board u) (suc i) n)
        → first_from (expired board u target) i (suc n) ≡ i + ended target (listed (entry_at board u) i (suc n))
    go true e rest = rw e (omega arith)
    go false e rest = rw e (omega arith)

-- what the code counts on the ring is what the abstract log drops
pub dropped_ended : (board : List ℕ) (u : LogState) (target : ℕ) → dropped board u target ≡ ended target (log_of board u)
unfolding dropped
dropped_ended board u target = dropped_from board u target 0 u.control.length ∙ zero-add (ended target (log_of board u))

dropped_within : (board : List ℕ) (u : LogState) (target : ℕ) → dropped board u target ≤ u.control.length
dropped_within board u target =
    omega (arith, dropped_ended board u target, ended_le target (log_of board u), length_listed (entry_at board u) 0 u.control.length)

-- ---- the ring, turned by the number of dropped entries

module _ (board : List ℕ) (u : LogState) (target n : ℕ) where
  abbrev turned : LogState
  turned = undo_with (undo.advanced u target n) u.entries

  place_turned : (k : ℕ) → place_of turned k ≡ place_of u (n + k)
  unfolding place_of
  place_turned k = rw (mod-add-mod, add_assoc)

  entry_turned : (k : ℕ) → entry_at board turned k ≡ entry_at board u (n + k)
  unfolding entry_of entry_in old_in
  entry_turned k = rw (place_turned k)

  log_turned : n ≤ u.control.length → log_of board turned ≡ drop n (log_of board u)
  log_turned within =
      let rest : ℕ = u.control.length - n in
      let all : u.control.length ≡ n + rest = omega arith in
      listed_same (entry_at board turned) (λ k. entry_at board u (n + k)) 0 rest (λ k lo hi. entry_turned k)
      ∙ sym (ap (λ (k : ℕ). drop n (listed (entry_at board u) 0 k)) all ∙ listed_drop (entry_at board u) n rest)

-- ---- the advance

pub advance_reads : {N L : ℕ} {board : List ℕ} {d : Durable} (u : LogState) → Reads N L board u.control d → u.entries ≡ L
    → (target : ℕ) → target < last_epoch
    → Reads N L (applied board (advance_stores board u target)) (undo.advanced u target (dropped board u target)) (advanced d target)
unfolding advance_stores
advance_reads {N} {L} {board} {d} u r same target early =
    let n : ℕ = dropped board u target in
    let some : 0 < u.entries = omega (arith, r.sized.sizes) in
    let bounded : Bounded L (undo.advanced u target n) = omega (arith, reads_bounded r, mod-lt (u.control.start + n) some) in
    let log : log_of board (undo_with (undo.advanced u target n) L) ≡ drop_ended target d.log =
    rw (← same, ← reads_log u r same, ← dropped_ended board u target) (log_turned board u target n (dropped_within board u target)) in
    reads_as (control_reads r.sized (undo.advanced u target n) bounded)
    (λ i. record { persisted = target; log = log i; memory = (reads_with r i).memory })
