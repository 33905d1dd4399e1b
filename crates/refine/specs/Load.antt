-- Bringing a line into its slot keeps the invariant, and a line in its slot reads as the reference machine has it.
use Rattle.std.specs.Prelude.{ℕ, ◌+◌, ◌<◌, ◌≡◌, refl, Bool, List}
use Rattle.std.proofs.Common.{sym, ◌∙◌}
use Rattle.std.proofs.Math.Path.{ap}
use Rattle.std.proofs.Math.Bool.{true, false}
use Rattle.std.proofs.Math.ListN.{get_or}
use Rattle.layout.specs.Memory.{lines_at, slot_in, data_in}
use Rattle.board.specs.Stores.{applied}
use Rattle.undo.specs.declared.LogState.{LogState}
use Rattle.slots.specs.declared.Bounds.{Bounds}
use Rattle.slots.specs.declared.Spot.{Spot}
use Rattle.steps.specs.Effects.{emptying, line_in, bringing, loading}
use Rattle.slots.specs.Slots.{holds}
use Rattle.history.specs.Machine.{absent, Durable}
use Rattle.reference.specs.Machine.{Reference}
use Rattle.history.proofs.Keeps.{fill_live}
use Rattle.history.proofs.Lines.{held_as}
use Rattle.volatile.specs.Cache.{cache_of, Alone, cache_at}
use Rattle.volatile.specs.Held.{empty_held}
use Rattle.volatile.specs.Proper.{AtHome, FullSlot, is_clean, is_dirty}
use Rattle.volatile.specs.Slotted.{slot_full, clean_cached, dirty_cached}
use Rattle.volatile.specs.Moves.{moved_empty, alone_moved}
use Rattle.volatile.specs.Stores.{filled_empty}
use Rattle.refine.specs.Pass.{Sweep, pass_cleaned}
use Rattle.refine.specs.State.{Ok}
use Rattle.refine.specs.Flush.{Keeps, nothing_keeps}
use Rattle.refine.specs.WriteOut.{ok_with}
use Rattle.refine.specs.Empty.{emptying_keeps, emptying_slot, Fewer, same_fewer, emptying_fewer}

-- a held line's data is the reference machine's line
pub full_reads : {L : ℕ} {b : Bounds} {at : Sweep} {board work : List ℕ} {u : LogState} {g : Reference} → Ok L b at board work u g → (k a : ℕ)
    → k < b.slots → FullSlot b a (slot_in work k) → data_in work k ≡ g.lines a
full_reads o k a below (is_clean e) = (held_as o.live a (clean_cached o.slotted k a below e)).0
full_reads o k a below (is_dirty tag e lo hi) = (held_as o.live a (dirty_cached o.slotted k a below tag e)).current

module _ {L : ℕ} {b : Bounds} {at : Sweep} {board work : List ℕ} {u : LogState} {g : Reference} (o : Ok L b at board work u g) (k : ℕ)
    (below : k < b.slots) (a : ℕ) (home : AtHome b k a) (alone : Alone work b.slots k a) where
  pub emptied : Keeps L b board g (emptying u work k) at g
  emptied = emptying_keeps o k below

  abbrev board' : List ℕ
  board' = applied board (emptying u work k).stores

  line_same : line_in board' u a ≡ emptied.after.durable.memory a
  unfolding line_in
  line_same =
      ap (λ (n : ℕ). get_or board' (lines_at n + a) 0) o.ring ∙ ap (λ (d : Durable). d.memory a) emptied.after.reads.durable

  still_alone : Alone (emptying u work k).work b.slots k a
  still_alone = alone_moved b.slots k (moved_empty b.slots k work o.slotted.words u) a alone

  absent_now : cache_of (emptying u work k).work b.slots a ≡ absent
  absent_now =
      cache_at (emptying u work k).work b.slots k a below still_alone
      ∙ rw (emptying_slot o k below) (empty_held (data_in (emptying u work k).work k) a)

  pub bringing_keeps : Keeps L b board g (bringing board u work k a) at g
  unfolding bringing
  bringing_keeps =
      let line = line_in board' u a in
      let st = filled_empty emptied.after.slotted k below (emptying_slot o k below) a line home still_alone in
      record {
        along = emptied.along;
        after =
            ok_with emptied.after st at (pass_cleaned emptied.after.pass st refl) board'
            emptied.after.durable emptied.after.reads emptied.after.persisted g emptied.after.safe
            (rw line_same (fill_live emptied.after.live a absent_now));
      }

  pub bringing_full : FullSlot b a (slot_in (bringing board u work k a).work k)
  unfolding bringing
  bringing_full =
      is_clean
      (filled_empty emptied.after.slotted k below (emptying_slot o k below) a (line_in board' u a) home still_alone).slot

  -- whether it was held before or not
  module _ (held : Bool) (is : held ≡ holds work k a) where
    abbrev spot : Spot
    spot = record { slot = k; held = held }

    pub loading_keeps : Keeps L b board g (loading board u work a spot) at g
    unfolding loading
    loading_keeps = go held
      where
        go : (t : Bool) → Keeps L b board g (loading board u work a (record { slot = k; held = t })) at g
        go true = nothing_keeps o
        go false = bringing_keeps

    pub loading_full : FullSlot b a (slot_in (loading board u work a spot).work k)
    unfolding loading
    loading_full = go held is
      where
        go : (t : Bool) → t ≡ holds work k a → FullSlot b a (slot_in (loading board u work a (record { slot = k; held = t })).work k)
        go true e = slot_full o.slotted k a below (sym e)
        go false e = bringing_full

    pub loading_fewer : Fewer u (loading board u work a spot).undo
    unfolding loading bringing
    loading_fewer = go held
      where
        go : (t : Bool) → Fewer u (loading board u work a (record { slot = k; held = t })).undo
        go true = same_fewer u
        go false = emptying_fewer u work k
