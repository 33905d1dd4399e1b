-- What each step costs, and how many stores it owes at most.
use Rattle.std.specs.Prelude.{ℕ, zero, suc, ◌+◌, ◌-◌, ◌*◌, ◌<◌, ◌≤◌, ◌≡◌, refl, Bool, true, false, cond, ◌&&◌, List, [], ◌++◌, leb, eqb, length}
use Rattle.std.proofs.Common.{mul-suc, arith, eqb-true, length-append}
use Rattle.base.specs.Cases.{either}
use Rattle.board.specs.Parts.{length_shifted}
use Rattle.board.specs.Stores.{Store, one, each, shifted}
use Rattle.ranges.specs.Ranges.{covers}
use Rattle.layout.specs.Limits.{buffer_places, most_stores}
use Rattle.layout.specs.Memory.{control_at, log_at, lines_at, buffer_in, slot_in, data_in}
use Rattle.layout.specs.Words.{encode_control}
use Rattle.undo.specs.declared.LogState.{LogState}
use Rattle.undo.specs.Filter.{hits}
use Rattle.undo.specs.Recovery.{Log, restore_stores, restore_turn, restore_all}
use Rattle.undo.specs.Log.{log_in, counted, entry_stores, flushed, flush_stores, advance_stores}
use Rattle.undo.specs.Log.{recover_stores}
use Rattle.slots.specs.declared.Spot.{Spot}
use Rattle.steps.specs.Effects.{Effect, nothing, flushing, flushing_if, writing_out, writing_back, emptying, bringing, loading}
use Rattle.slots.specs.Slots.{entry_due}
use Rattle.steps.specs.Effects.{storing_held, storing, evicting, cleaning, visiting, persisting}
use Rattle.bounds.specs.Costs.{owed, Costs}

each_count : (f : ℕ → List Store) (n : ℕ) → ((i : ℕ) → length (f i) ≡ n) → (k : ℕ) → length (each f k) ≡ n * k
unfolding each
each_count f n h zero = omega arith
each_count f n h (suc k) = rw (length-append, each_count f n h k, h k, mul-suc)

each_most : (f : ℕ → List Store) → ((i : ℕ) → length (f i) ≤ 1) → (k : ℕ) → length (each f k) ≤ k
unfolding each
each_most f h zero = omega arith
each_most f h (suc k) = rw length-append (omega (arith, each_most f h k, h k))

pub owed_most : (buffered : ℕ) → buffered < buffer_places → owed buffered + 3 ≤ most_stores
unfolding owed
owed_most b h = either (λ (n : ℕ). n + 3 ≤ most_stores) (eqb b 0) (omega arith) (omega arith)

flush_cost : (u : LogState) (buffer : List ℕ) → length (flush_stores u buffer) ≡ owed u.buffered
unfolding flush_stores entry_stores owed
flush_cost u buffer =
    go (eqb u.buffered 0) (shifted log_at (each (entry_stores u buffer) u.buffered) ++ one control_at (encode_control (flushed u).control))
    (rw (length-append, length_shifted, each_count (entry_stores u buffer) 2 (λ i. refl)))
  where
    go : (t : Bool) (ss : List Store) → length ss ≡ 2 * u.buffered + 1 → length (cond t [] ss) ≡ cond t 0 (2 * u.buffered + 1)
    go true ss e = refl
    go false ss e = e

nothing_cost : (n : ℕ) (u : LogState) (work : List ℕ) → Costs n u (nothing u work)
nothing_cost n u work = omega arith

flushing_cost : (due : Bool) (u : LogState) (work : List ℕ) → Costs 0 u (flushing_if due u work)
unfolding flushing_if flushed owed
flushing_cost due u work = either (Costs 0 u) due (omega (arith, flush_cost u (buffer_in work))) (nothing_cost 0 u work)

writing_cost : (u : LogState) (work : List ℕ) (address value : ℕ) → Costs 1 u (writing_out u work address value)
unfolding writing_out
writing_cost u work address value =
    rw length-append (omega (arith, flushing_cost (hits (buffer_in work) u.buffered address) u work))

emptying_cost : (u : LogState) (work : List ℕ) (k : ℕ) → Costs 1 u (emptying u work k)
unfolding emptying writing_back
emptying_cost u work k =
    either (Costs 1 u) (slot_in work k).dirty (writing_cost u work (slot_in work k).address (data_in work k)) (nothing_cost 1 u work)

pub loading_cost : (board : List ℕ) (u : LogState) (work : List ℕ) (address : ℕ) (spot : Spot) → Costs 1 u (loading board u work address spot)
unfolding loading bringing
loading_cost board u work address spot = either (Costs 1 u) spot.held (nothing_cost 1 u work) (emptying_cost u work spot.slot)

pub evicting_cost : (u : LogState) (work : List ℕ) (spot : Spot) → Costs 1 u (evicting u work spot)
unfolding evicting
evicting_cost u work spot = either (Costs 1 u) spot.held (emptying_cost u work spot.slot) (nothing_cost 1 u work)

pub visiting_cost : (u : LogState) (work : List ℕ) (k target : ℕ) → Costs 1 u (visiting u work k target)
unfolding visiting cleaning
visiting_cost u work k target =
    either (Costs 1 u) ((slot_in work k).dirty && leb (slot_in work k).tag target)
    (writing_cost u work (slot_in work k).address (data_in work k))
    (nothing_cost 1 u work)

-- "An entry goes to the buffer's end; at 32 the buffer is flushed at once."
full_cost : (u : LogState) (work : List ℕ)
    → length (flushing_if (eqb (u.buffered + 1) buffer_places) (counted u) work).stores ≤ owed u.buffered + 2
unfolding flushing_if owed
full_cost u work = go (eqb (u.buffered + 1) buffer_places) refl
  where
    last : (b : ℕ) → b ≡ buffer_places - 1 → owed (b + 1) ≤ owed b + 2
    last b e = rw e (omega arith)

    go : (t : Bool) → eqb (u.buffered + 1) buffer_places ≡ t
        → length (cond t (flushing (counted u) work) (nothing (counted u) work)).stores ≤ owed u.buffered + 2
    go true e =
        let full : u.buffered ≡ buffer_places - 1 = omega (arith, eqb-true (u.buffered + 1) buffer_places e) in
        omega (arith, flush_cost (counted u) (buffer_in work), last u.buffered full)
    go false e = omega arith

storing_held_most : (u : LogState) (work : List ℕ) (k address epoch value : ℕ)
    → length (storing_held u work k address epoch value).stores ≤ owed u.buffered + 2
unfolding storing_held
storing_held_most u work k address epoch value =
    either (λ (e : Effect). length e.stores ≤ owed u.buffered + 2) (entry_due epoch (slot_in work k)) (full_cost u _) (omega arith)

pub storing_most : (board : List ℕ) (u : LogState) (work : List ℕ) (address : ℕ) (spot : Spot) (epoch value : ℕ)
    → length (storing board u work address spot epoch value).stores ≤ owed u.buffered + 3
unfolding storing
storing_most board u work address spot epoch value =
    let l = loading board u work address spot in
    rw length-append
    (omega (arith, loading_cost board u work address spot, storing_held_most l.undo l.work spot.slot address epoch value))

pub persisting_most : (board : List ℕ) (u : LogState) (work : List ℕ) (target : ℕ)
    → length (persisting board u work target).stores ≤ owed u.buffered + 1
unfolding persisting advance_stores
persisting_most board u work target = rw length-append (omega (arith, flushing_cost true u work))

-- power-up: a store for each entry at most, and the control word
restore_most : (log : Log) (line_at : ℕ) → length (restore_all log line_at) ≤ log.count
unfolding restore_turn restore_stores
restore_most log line_at = omega (arith, each_most (restore_turn log line_at) turn log.count)
  where
    turn : (j : ℕ) → length (restore_turn log line_at j) ≤ 1
    turn j =
        either (λ (ss : List Store). length ss ≤ 1) (covers (log.range (log.count - (j + 1))) log.persisted)
        (omega arith)
        (omega arith)

pub recover_most : (board : List ℕ) (u : LogState) → length (recover_stores board u) ≤ u.control.length + 1
unfolding recover_stores
recover_most board u = rw length-append (omega (arith, restore_most (log_in board u) (lines_at u.entries)))
