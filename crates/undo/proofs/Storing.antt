-- The stores of the flush.
use Prim.Native.Nat.{ℕ, ◌+◌, ◌-◌, ◌*◌, ◌<◌, ◌≤◌}
use mathlib.Core.Path.{◌≡◌, refl, ap, subst, ◌∙◌}
use mathlib.Core.List.{List, [], ◌++◌}
use native.Mathlib.Nat.{mod-lt}
use native.Mathlib.Omega.{arith}
use borrow.Author.Tests.{eq-eqb, ne_eqb}
use lib.ListN.{length, get_or, take, drop, replicate}
use Rattle.base.specs.Parts.{set_pair}
use Rattle.board.specs.declared.Meter.{Meter}
use Rattle.board.specs.Stores.{one, each, Ran}
use Rattle.board.specs.Laws.{ran_none, ran_then, each_none, each_next, each_done}
use Rattle.board.specs.Parts.{ran_part}
use Rattle.layout.specs.declared.Entry.{Entry}
use Rattle.layout.specs.Memory.{control_at, log_at}
use Rattle.layout.specs.Words.{encode_control, encode_entry, ControlFits}
use Rattle.undo.specs.declared.LogState.{LogState}
use Rattle.undo.specs.Filter.{marking}
use Rattle.undo.specs.Log.{Sound, Placed, entry_stores, flushed, flush_stores, flushed_buffer, pushed, counted}
use Rattle.undo.specs.Log.{DroppedBy, advanced, advance_stores}
use Rattle.undo.specs.Ring.{next_place}
use Rattle.undo.specs.Stretches.{Entries}
use Rattle.undo.proofs.Ring.{placed_next}
use Rattle.undo.specs.Promises.{Flushes, FlushReady, Pushes, AdvanceReady}

pub push_done : (buffer buffer' buffer'' : List ℕ) (u : LogState) (e : Entry) (old w : ℕ) (r : LogState) → w ≡ encode_entry e
    → buffer' ≡ set_pair buffer (2 * u.buffered) w old → buffer'' ≡ marking buffer' e.address → r ≡ counted u → Pushes buffer u e old buffer'' r
unfolding pushed
push_done buffer buffer' buffer'' u e old w r h x y g = record { undo = g; memory = rw (← h, ← x) y }

-- the entries of the buffer, each to its place
pub record Putting (log₀ buffer : List ℕ) (u : LogState) (m₀ : Meter) (log : List ℕ) (m : Meter) (at i : ℕ) : Type 0 where
  pub within : i ≤ u.buffered
  pub ran : Ran log₀ m₀ (each (entry_stores u buffer) i) log m
  pub placed : Placed u (u.control.length + i) at
  pub same_words : length log ≡ length log₀

module _ (log₀ buffer : List ℕ) (u : LogState) (m₀ : Meter) where
  pub put_start : (at : ℕ) → Placed u u.control.length at → Putting log₀ buffer u m₀ log₀ m₀ at 0
  put_start at p =
      let e : u.control.length ≡ u.control.length + 0 = omega arith in
      record { within = omega arith; ran = each_none (entry_stores u buffer) log₀ m₀; placed = subst (λ (x : ℕ). Placed u x at) e p; same_words = refl }

  module _ (log : List ℕ) (m : Meter) (at i : ℕ) (so_far : Putting log₀ buffer u m₀ log m at i) where
    pub put_next : (entries : List (List ℕ)) → Entries buffer u.buffered entries
        → (log' log'' : List ℕ) (m' m'' : Meter) (r : ℕ) → Sound u → i < length entries
        → Ran log m (one at (get_or (get_or entries i []) 0 0)) log' m'
        → Ran log' m' (one (at + 1) (get_or (get_or entries i []) 1 0)) log'' m''
        → length log' ≡ length log → length log'' ≡ length log'
        → r ≡ next_place (2 * u.entries) at → Putting log₀ buffer u m₀ log'' m'' r (i + 1)
    unfolding entry_stores
    put_next entries s log' log'' m' m'' r sound h x y l l' n =
        let below : i < u.buffered = omega (arith, s.count_is) in
        let word : get_or (get_or entries i []) 0 0 ≡ get_or buffer (2 * i) 0 = ap (λ (words : List ℕ). get_or words 0 0) (s.same i below) in
        let old : get_or (get_or entries i []) 1 0 ≡ get_or buffer (2 * i + 1) 0 = ap (λ (words : List ℕ). get_or words 1 0) (s.same i below) in
        let e : u.control.length + i + 1 ≡ u.control.length + (i + 1) = omega arith in
        record {
          within = omega arith;
          ran = each_next (entry_stores u buffer) i so_far.ran (rw (← so_far.placed.is) (ran_then (rw word at x) (rw old at y)));
          placed = subst (λ (k : ℕ). Placed u k r) e (placed_next u sound (u.control.length + i) at r so_far.placed n);
          same_words = l' ∙ l ∙ so_far.same_words;
        }

    pub put_end : (entries : List (List ℕ)) → Entries buffer u.buffered entries → length entries ≤ i
        → Ran log₀ m₀ (each (entry_stores u buffer) u.buffered) log m
    put_end entries s h = each_done (entry_stores u buffer) i u.buffered so_far.within (omega (arith, s.count_is)) so_far.ran

module _ (board buffer : List ℕ) (u : LogState) (m : Meter) where
  pub flush_none : u.buffered ≡ 0 → Flushes board buffer u m board buffer (record { undo = u; meter = m })
  unfolding flush_stores flushed flushed_buffer
  flush_none h =
      let k : u.control.length ≡ u.control.length + u.buffered = omega arith in
      record {
        ran = rw (eq-eqb u.buffered 0 h) (ran_none board m);
        undo =
            λ i.
            record {
              control = record { persisted = u.control.persisted; start = u.control.start; length = k i };
              entries = u.entries;
              buffered = h i;
            };
        memory = rw (eq-eqb u.buffered 0 h);
      }

  pub flush_some : (log board'' buffer'' : List ℕ) (m' m'' : Meter) (u' : LogState) (w : ℕ) → (u.buffered ≡ 0 → ⊥) → FlushReady board buffer u
      → Ran (take (length board - log_at) (drop log_at board)) m (each (entry_stores u buffer) u.buffered) log m'
      → u' ≡ flushed u → w ≡ encode_control u'.control
      → Ran (take log_at board ++ (log ++ drop (length board - log_at) (drop log_at board))) m' (one control_at w) board'' m''
      → buffer'' ≡ replicate (length buffer) 0
      → Flushes board buffer u m board'' buffer'' (record { undo = u'; meter = m'' })
  unfolding flush_stores flushed_buffer
  flush_some log board'' buffer'' m' m'' u' w n ready x e f y z =
      let h : log_at ≤ length board = omega (arith, ready.board_words_holds) in
      record {
        ran = rw (ne_eqb u.buffered 0 n, ← e, ← f) (ran_then (ran_part log_at h x) y);
        undo = e;
        memory = rw (ne_eqb u.buffered 0 n) z;
      }

pub flush_control : (u u' : LogState) → Sound u → u' ≡ flushed u → ControlFits u'.control
unfolding flushed
flush_control u u' s e = rw e (omega arith)

-- the advance
module _ (board : List ℕ) (u : LogState) (target run : ℕ) (ready : AdvanceReady board u target) (d : DroppedBy board u target run) where
  pub advance_fits : ControlFits (advanced u target run)
  advance_fits = omega (arith, ready.sound, d.within, mod-lt (u.control.start + run) ready.sound.some)

  pub advance_done : (w : ℕ) (board' : List ℕ) (m m' : Meter) → w ≡ encode_control (advanced u target run)
      → Ran board m (one control_at w) board' m' → Ran board m (advance_stores board u target) board' m'
  unfolding advance_stores
  advance_done w board' m m' h x = rw (← d.is, ← h) x
