-- A store to a held line keeps the invariant: the undo entry that it makes, and the flush of a full buffer.
use Rattle.std.specs.Prelude.{ℕ, ◌+◌, ◌^◌, ◌≤◌, ◌<◌, ◌≡◌, refl, true, List}
use Rattle.std.proofs.Common.{sym, subst, ◌∙◌, arith}
use Rattle.std.proofs.Math.Path.{ap}
use Rattle.std.proofs.Math.Bool.{false}
use Rattle.std.proofs.Math.Decide.{ℕ_discrete}
use borrow.Author.Tests.{eq-eqb, ne_eqb}
use Rattle.std.proofs.Math.Dec.{eqb}
use Rattle.layout.specs.Limits.{epoch_bits, buffer_places, most_ahead}
use Rattle.layout.specs.Memory.{slot_in, data_in}
use Rattle.layout.specs.Words.{EntryFits}
use Rattle.board.specs.Stores.{applied}
use Rattle.undo.specs.declared.LogState.{LogState}
use Rattle.undo.specs.Log.{counted}
use Rattle.slots.specs.declared.Bounds.{Bounds}
use Rattle.steps.specs.Effects.{flushing_if, entry_between, entry_for, logged, storing_held}
use Rattle.slots.specs.Slots.{entry_due}
use Rattle.slots.specs.Slots.{holds, clean_slot, dirty_slot, dirtied}
use Rattle.history.specs.Machine.{dirty, Volatile, marked}
use Rattle.reference.specs.Machine.{Reference, stores}
use Rattle.history.specs.Invariant.{Live}
use Rattle.history.proofs.Keeps.{store_safe, store_clean_live, store_committed_live, store_transient_live}
use Rattle.durable.specs.Reads.{reads_persisted}
use Rattle.volatile.specs.Filter.{logged_exact}
use Rattle.volatile.specs.Proper.{AtHome, FullSlot, is_clean, is_dirty, clean_holds, dirty_holds}
use Rattle.volatile.specs.Slotted.{clean_cached, dirty_cached}
use Rattle.volatile.specs.Stores.{dirtied_held}
use Rattle.volatile.specs.View.{volatile_of, marked_stored, view_marked}
use Rattle.refine.specs.Pass.{Sweep, pass_logged, pass_dirtied}
use Rattle.refine.specs.State.{Ok}
use Rattle.refine.specs.Along.{along_none, off_for}
use Rattle.refine.specs.Flush.{Keeps, flushing_if_keeps}
use Rattle.refine.specs.WriteOut.{ok_with}

module _ {L : ℕ} {b : Bounds} {at : Sweep} {board work : List ℕ} {u : LogState} {g : Reference} (o : Ok L b at board work u g) (k : ℕ)
    (below : k < b.slots) (a : ℕ) (home : AtHome b k a) (value : ℕ) where
  abbrev w : Volatile
  w = volatile_of work b.slots b.epoch u.buffered

  ahead : b.persisted < b.epoch
  ahead = omega (arith, o.persisted, o.live.history.ahead)

  window : b.epoch ≤ b.persisted + most_ahead
  window = omega (arith, o.persisted, o.live.history.window)

  fits : b.epoch < 2 ^ epoch_bits
  fits = omega (arith, o.last)

  -- with its entry buffered
  module _ (h : holds work k a ≡ true) (from : ℕ) (early : from < b.epoch) (near : b.epoch ≤ from + most_ahead) (place : u.buffered < buffer_places)
      (room : u.control.length + u.buffered + 1 ≤ L)
      (live : Live b.lines most_ahead o.durable (marked w a from (data_in work k) value) (stores g a value)) where
    abbrev work' : List ℕ
    work' = dirtied (logged u work (entry_between a from b.epoch) (data_in work k)) k a b.epoch value

    entry_fits : EntryFits (entry_between a from b.epoch)
    entry_fits = record { address = home.fits; till = fits; span = omega arith }

    logged_ok : Ok L b at board work' (counted u) (stores g a value)
    logged_ok =
        let st = marked_stored o.slotted u k a below h ahead fits (data_in work k) value (entry_between a from b.epoch) in
        record {
          durable = o.durable;
          reads = o.reads;
          ring = o.ring;
          slotted = st.slotted;
          persisted = o.persisted;
          last = o.last;
          room = omega arith;
          places = omega arith;
          filter = rw st.buffer (logged_exact o.slotted u o.filter (entry_between a from b.epoch) (data_in work k) place entry_fits);
          pass = pass_dirtied (pass_logged o.pass o.slotted u (entry_between a from b.epoch) (data_in work k)) st;
          safe = store_safe o.safe a value;
          live =
              subst (λ (x : Volatile). Live b.lines most_ahead o.durable x (stores g a value))
              (sym (view_marked o.slotted u k a below h ahead fits (data_in work k) value from early near place)) live;
        }

    -- "at 32 the buffer is flushed at once"
    logged_keeps : Keeps L b board g (flushing_if (eqb (u.buffered + 1) buffer_places) (counted u) work') at (stores g a value)
    logged_keeps =
        let x = flushing_if_keeps logged_ok (eqb (u.buffered + 1) buffer_places) in
        record { along = λ i p. off_for refl refl (x.along i p); after = x.after }

  module _ (place : u.buffered < buffer_places)
      (room : entry_due b.epoch (slot_in work k) ≡ true → u.control.length + u.buffered + 1 ≤ L) where
    named : u.control.persisted ≡ b.persisted
    named = reads_persisted o.reads ∙ sym o.persisted

    clean_keeps : slot_in work k ≡ clean_slot a → Keeps L b board g (storing_held u work k a b.epoch value) at (stores g a value)
    unfolding storing_held entry_due entry_for
    clean_keeps e =
        let due : u.control.length + u.buffered + 1 ≤ L = room (rw e) in
        rw e
        (logged_keeps (clean_holds work k a e) u.control.persisted (omega (arith, named, ahead)) (omega (arith, named, window)) place due
        (subst (λ (p : ℕ). Live b.lines most_ahead o.durable (marked w a p (data_in work k) value) (stores g a value))
        (sym (reads_persisted o.reads))
        (store_clean_live o.live a value (clean_cached o.slotted k a below e) home.inside)))

    module _ (tag : ℕ) (e : slot_in work k ≡ dirty_slot a tag) (lo : b.persisted < tag) (hi : tag ≤ b.epoch) where
      held : holds work k a ≡ true
      held = dirty_holds work k a tag e

      cached : w.cache a ≡ dirty tag (data_in work k)
      cached = dirty_cached o.slotted k a below tag e

      committed_keeps : tag < b.epoch → Keeps L b board g (storing_held u work k a b.epoch value) at (stores g a value)
      unfolding storing_held entry_due entry_for
      committed_keeps early =
          let other : eqb tag b.epoch ≡ false = ne_eqb tag b.epoch (omega arith) in
          let due : u.control.length + u.buffered + 1 ≤ L = room (rw (e, other)) in
          rw (e, other)
          (logged_keeps held tag early (omega (arith, window)) place due (store_committed_live o.live a value cached early home.inside))

      transient_keeps : tag ≡ b.epoch → Keeps L b board g (storing_held u work k a b.epoch value) at (stores g a value)
      unfolding storing_held entry_due applied
      transient_keeps now =
          let st = dirtied_held o.slotted k below a held b.epoch value ahead (omega arith) fits in
          let again : w.cache a ≡ dirty b.epoch (data_in work k) = cached ∙ ap (λ (t : ℕ). dirty t (data_in work k)) now in
          rw (e, eq-eqb tag b.epoch now)
          record {
            along = along_none b.lines L board g;
            after =
                ok_with o st at (pass_dirtied o.pass st) board o.durable o.reads o.persisted
                (stores g a value) (store_safe o.safe a value) (store_transient_live o.live a value again);
          }

    pub storing_held_keeps : FullSlot b a (slot_in work k) → Keeps L b board g (storing_held u work k a b.epoch value) at (stores g a value)
    storing_held_keeps (is_clean e) = clean_keeps e
    storing_held_keeps (is_dirty tag e lo hi) = go (ℕ_discrete tag b.epoch)
      where
        go : Dec (tag ≡ b.epoch) → Keeps L b board g (storing_held u work k a b.epoch value) at (stores g a value)
        go (yes p) = transient_keeps tag e lo hi p
        go (no p) = committed_keeps tag e lo hi (omega arith)
