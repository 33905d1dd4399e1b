-- Emptying a slot, and filling it from the board, keep the invariant.
use Prim.Native.Nat.{ℕ, ◌+◌, ◌≤◌, ◌<◌}
use Rattle.std.specs.Prelude.{◌≡◌, Bool, true, false, cond, List, []}
use Rattle.std.proofs.Math.Path.{refl}
use Rattle.std.proofs.Common.{sym, subst, ◌∙◌, arith}
use Rattle.layout.specs.declared.Slot.{Slot}
use Rattle.layout.specs.Limits.{most_ahead}
use Rattle.layout.specs.Memory.{buffer_in, slot_in, data_in}
use Rattle.board.specs.Stores.{applied}
use Rattle.undo.specs.declared.LogState.{LogState}
use Rattle.undo.specs.Log as undo
use Rattle.undo.specs.Filter.{hits}
use Rattle.slots.specs.declared.Bounds.{Bounds}
use Rattle.steps.specs.Effects.{nothing, flushing_if, writing_out, writing_back, emptying}
use Rattle.slots.specs.Slots.{clean_slot, dirty_slot}
use Rattle.history.specs.Machine.{Line, absent, clean, Volatile, written}
use Rattle.base.specs.Cases.{update}
use Rattle.reference.specs.Machine.{Reference}
use Rattle.history.specs.Invariant.{Live}
use Rattle.history.proofs.Keeps.{discard_live}
use Rattle.base.specs.Cases.{here_or_there, update_same, update_other}
use Rattle.volatile.specs.Cache.{cache_of}
use Rattle.volatile.specs.Proper.{AtHome, is_clean, is_dirty, ProperSlot, is_empty, is_full, clean_holds, dirty_holds}
use Rattle.volatile.specs.Slotted.{slot_kind, clean_cached}
use Rattle.volatile.specs.Stores.{Stored, zeroed_empty, zeroed_held}
use Rattle.layout.specs.ZeroWord.{empty_slot}
use Rattle.volatile.specs.View.{volatile_of, with_lines}
use Rattle.refine.specs.Pass.{Sweep, pass_cleaned}
use Rattle.refine.specs.State.{Ok}
use Rattle.refine.specs.Along.{along_none}
use Rattle.refine.specs.Flush.{Keeps}
use Rattle.refine.specs.WriteOut.{ok_with, first, flushed_slot, written_live, written_keeps}

-- a line that is held otherwise twice
update_again : {A : Type 0} (f : ℕ → A) (a : ℕ) (x y : A) → update (update f a x) a y ≡ update f a y
update_again f a x y =
    λ i c. here_or_there a (λ c. update (update f a x) a y c ≡ update f a y c)
    (update_same (update f a x) a y ∙ sym (update_same f a y))
    (λ c away. update_other (update f a x) a y c away ∙ update_other f a x c away ∙ sym (update_other f a y c away)) c i

module _ {L : ℕ} {b : Bounds} {at : Sweep} {board work : List ℕ} {u : LogState} {g : Reference} (o : Ok L b at board work u g) (k : ℕ)
    (below : k < b.slots) where
  abbrev w : Volatile
  w = volatile_of work b.slots b.epoch u.buffered

  -- a slot that makes no store
  quiet : {s : Slot} {word : ℕ} {lines : ℕ → Line} {work' : List ℕ} → Stored b work k s word lines work' → s.dirty ≡ false
      → Live b.lines most_ahead o.durable (with_lines w lines) g
      → Keeps L b board g (record { stores = []; undo = u; work = work' }) at g
  unfolding applied
  quiet st clean_now live =
      record {
        along = along_none b.lines L board g;
        after =
            ok_with o st at (pass_cleaned o.pass st clean_now) board
            o.durable o.reads o.persisted g o.safe live;
      }

  empty_keeps : slot_in work k ≡ empty_slot → Keeps L b board g (emptying u work k) at g
  unfolding emptying writing_back
  empty_keeps e = rw e (quiet (zeroed_empty o.slotted k below e) refl o.live)

  module _ (a : ℕ) (home : AtHome b k a) where
    clean_keeps : slot_in work k ≡ clean_slot a → Keeps L b board g (emptying u work k) at g
    unfolding emptying writing_back
    clean_keeps e =
        rw e
        (quiet (zeroed_held o.slotted k below a (clean_holds work k a e)) refl
        (discard_live o.live a (clean_cached o.slotted k a below e)))

    dirty_keeps : (tag : ℕ) → slot_in work k ≡ dirty_slot a tag → b.persisted < tag → tag ≤ b.epoch → Keeps L b board g (emptying u work k) at g
    unfolding emptying writing_back writing_out
    dirty_keeps tag e lo hi =
        let t = hits (buffer_in work) u.buffered a in
        let x = first o k below a tag home e t refl in
        let h = dirty_holds (flushing_if t u work).work k a tag (flushed_slot o k below a tag home e t refl) in
        let st = zeroed_held x.after.slotted k below a h in
        rw e
        (written_keeps o k below a tag home e t refl absent st at
        (pass_cleaned x.after.pass st refl)
        (subst
        (λ (lines : ℕ → Line). Live b.lines most_ahead (written x.after.durable a (data_in work k)) (with_lines (volatile_of (flushing_if t u work).work b.slots b.epoch (flushing_if t u work).undo.buffered) lines) g)
        (update_again (cache_of (flushing_if t u work).work b.slots) a (clean (data_in work k)) absent)
        (discard_live (written_live o k below a tag home e t refl) a (update_same (cache_of (flushing_if t u work).work b.slots) a (clean (data_in work k))))))

  pub emptying_keeps : Keeps L b board g (emptying u work k) at g
  emptying_keeps = go (slot_kind o.slotted k below)
    where
      go : ProperSlot b k (slot_in work k) → Keeps L b board g (emptying u work k) at g
      go (is_empty e) = empty_keeps e
      go (is_full a home (is_clean e)) = clean_keeps a home e
      go (is_full a home (is_dirty tag e lo hi)) = dirty_keeps a home tag e lo hi

  pub emptying_slot : slot_in (emptying u work k).work k ≡ empty_slot
  unfolding emptying writing_back writing_out
  emptying_slot = go (slot_kind o.slotted k below)
    where
      go : ProperSlot b k (slot_in work k) → slot_in (emptying u work k).work k ≡ empty_slot
      go (is_empty e) = rw e (zeroed_empty o.slotted k below e).slot
      go (is_full a home (is_clean e)) = rw e (zeroed_held o.slotted k below a (clean_holds work k a e)).slot
      go (is_full a home (is_dirty tag e lo hi)) =
          let t = hits (buffer_in work) u.buffered a in
          rw e
          (zeroed_held (first o k below a tag home e t refl).after.slotted k below a
          (dirty_holds (flushing_if t u work).work k a tag (flushed_slot o k below a tag home e t refl))).slot

-- emptying flushes, or leaves the log's numbers as they are
pub record Fewer (u v : LogState) : Type 0 where
  pub entries : v.entries ≡ u.entries
  pub used : v.control.length + v.buffered ≡ u.control.length + u.buffered
  pub buffered : v.buffered ≤ u.buffered
  pub persisted : v.control.persisted ≡ u.control.persisted

pub same_fewer : (u : LogState) → Fewer u u
same_fewer u = record { entries = refl; used = refl; buffered = omega arith; persisted = refl }

pub flush_fewer : (t : Bool) (u : LogState) (work : List ℕ) → Fewer u (flushing_if t u work).undo
unfolding flushing_if undo.flushed
flush_fewer true u work = record { entries = refl; used = omega arith; buffered = omega arith; persisted = refl }
flush_fewer false u work = same_fewer u

pub emptying_fewer : (u : LogState) (work : List ℕ) (k : ℕ) → Fewer u (emptying u work k).undo
unfolding emptying writing_back writing_out
emptying_fewer u work k = go (slot_in work k).dirty
  where
    go : (t : Bool)
        → Fewer u (cond t (writing_out u work (slot_in work k).address (data_in work k)) (nothing u work)).undo
    go true = flush_fewer (hits (buffer_in work) u.buffered (slot_in work k).address) u work
    go false = same_fewer u
