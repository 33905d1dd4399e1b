-- Behind any number of recovery's turns the log reads the same: its stores go to the lines.
use Prim.Native.Nat.{ℕ, zero, suc, ◌+◌, ◌-◌, ◌<◌}
use mathlib.Core.Path.{◌≡◌, refl, ap, ◌∙◌}
use mathlib.Core.Bool.{Bool, true, false, cond}
use mathlib.Core.List.{List, []}
use native.Mathlib.Omega.{arith}
use lib.ListN.{get_or}
use Rattle.board.specs.declared.Meter.{Meter}
use Rattle.board.specs.Stores.{Store, one, each, Ran}
use Rattle.board.specs.Laws.{ran_length}
use Rattle.board.specs.Kept.{Beyond, beyond_none, beyond_one, beyond_each, ran_kept}
use Rattle.ranges.specs.Ranges.{covers}
use Rattle.layout.specs.declared.Entry.{Entry}
use Rattle.layout.specs.Memory.{log_at, lines_at}
use Rattle.layout.specs.Words.{decode_entry}
use Rattle.undo.specs.declared.LogState.{LogState}
use Rattle.undo.specs.Entries.{range_of}
use Rattle.undo.specs.Recovery.{older_till, proper_at, restore_stores, restore_turn}
use Rattle.undo.specs.Log.{Sound, place_of, entry_in, old_in, log_in}
use Rattle.undo.specs.Promises.{RecoverReady}
use Rattle.undo.proofs.Ring.{place_below}

-- turn j from one on
unfoldable pub turn_from : List ℕ → LogState → (from : ℕ) → ℕ → List Store
turn_from board u from j = restore_turn (log_in board u) (lines_at u.entries) (from + j)

abbrev stores_in : List ℕ → LogState → ℕ → List Store
stores_in board u = restore_stores (log_in board u) (lines_at u.entries)

abbrev turn_in : List ℕ → LogState → ℕ → List Store
turn_in board u = restore_turn (log_in board u) (lines_at u.entries)

stores_beyond : (board : List ℕ) (u : LogState) (i : ℕ) → Beyond (lines_at u.entries) (stores_in board u i)
unfolding restore_stores
stores_beyond board u i = go (covers (range_of (entry_in board u i)) u.control.persisted)
  where
    go : (t : Bool) → Beyond (lines_at u.entries) (cond t (one (lines_at u.entries + (entry_in board u i).address) (old_in board u i)) [])
    go true = beyond_one _ _ _ (omega arith)
    go false = beyond_none _

turn_beyond : (board : List ℕ) (u : LogState) (j : ℕ) → Beyond (lines_at u.entries) (turn_in board u j)
unfolding restore_turn
turn_beyond board u j = stores_beyond board u _

-- The log reads the same behind any number of turns.
module _ (board₀ : List ℕ) (u : LogState) (sound : Sound u) {m₀ : Meter} {board : List ℕ} {m : Meter} (from n : ℕ)
    (ran : Ran board₀ m₀ (each (turn_from board₀ u from) n) board m) where
  stretch_beyond : (j : ℕ) → Beyond (lines_at u.entries) (turn_from board₀ u from j)
  unfolding turn_from
  stretch_beyond j = turn_beyond board₀ u (from + j)

  kept : (i : ℕ) → i < lines_at u.entries → get_or board i 0 ≡ get_or board₀ i 0
  kept i h = ran_kept (lines_at u.entries) (each (turn_from board₀ u from) n) (beyond_each _ (turn_from board₀ u from) stretch_beyond n) ran i h

  entry_kept : (i : ℕ) → entry_in board u i ≡ entry_in board₀ u i
  unfolding entry_in
  entry_kept i = ap decode_entry (kept (log_at + place_of u i) (omega (arith, place_below u sound i)))

  old_kept : (i : ℕ) → old_in board u i ≡ old_in board₀ u i
  unfolding old_in
  old_kept i = kept (log_at + place_of u i + 1) (omega (arith, place_below u sound i))

  stores_kept : (i : ℕ) → stores_in board u i ≡ stores_in board₀ u i
  unfolding restore_stores
  stores_kept i = rw (entry_kept i, old_kept i)

  pub turns_kept : (to j : ℕ) → turn_from board u to j ≡ turn_from board₀ u to j
  unfolding turn_from restore_turn
  turns_kept to j = stores_kept (u.control.length - (to + j + 1))

  older_kept : (i : ℕ) → older_till (log_in board u) i ≡ older_till (log_in board₀ u) i
  unfolding older_till
  older_kept zero = refl
  older_kept (suc i) = ap (λ (e : Entry). e.till) (entry_kept i)

  proper_kept : (lines i : ℕ) → proper_at (log_in board u) lines i ≡ proper_at (log_in board₀ u) lines i
  unfolding proper_at
  proper_kept lines i = rw (entry_kept i, older_kept i)

  pub ready_kept : (lines : ℕ) → RecoverReady board₀ u lines → RecoverReady board u lines
  ready_kept lines ready =
      record {
        sound = sound;
        board_words_holds = rw (ran_length (each (turn_from board₀ u from) n) ran) ready.board_words_holds;
        proper = λ i below. proper_kept lines i ∙ ready.proper i below;
      }
