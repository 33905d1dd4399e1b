-- The beginning of a pass, a scan's visit of a slot and its last step keep the invariant; the last step moves the persisted epoch of both
-- machines.
use Rattle.std.specs.Prelude.{ℕ, ◌≤◌, ◌<◌, ◌≡◌, Bool, cond, ◌&&◌, List}
use Rattle.std.proofs.Math.Path.{refl, subst}
use Rattle.std.proofs.Common.{sym, ap, ◌∙◌, arith}
use Rattle.std.proofs.Math.Bool.{true, false}
use Rattle.std.proofs.lemmas.Bool.{false≢true}
use Rattle.std.proofs.Math.Dec.{leb}
use Rattle.layout.specs.Memory.{buffer_in, slot_in, data_in}
use Rattle.board.specs.Laws.{applied_append}
use Rattle.board.specs.Stores.{applied}
use Rattle.undo.specs.declared.LogState.{LogState}
use Rattle.undo.specs.Log as undo
use Rattle.undo.specs.Filter.{hits}
use Rattle.undo.specs.Log.{advance_stores, dropped}
use Rattle.ranges.specs.Ranges.{Waits}
use Rattle.slots.specs.declared.Bounds.{Bounds}
use Rattle.steps.specs.Effects.{nothing, flushing_if, writing_out, cleaning, visiting, persisting}
use Rattle.slots.specs.Slots.{dirty_slot}
use Rattle.history.specs.Machine.{clean, advanced}
use Rattle.reference.specs.Machine.{Reference, persists}
use Rattle.history.proofs.Keeps.{advance_safe, advance_live}
use Rattle.durable.specs.Advance.{advance_reads}
use Rattle.layout.specs.declared.Slot.{Slot}
use Rattle.base.specs.Tests.{and_left}
use Rattle.volatile.specs.Buffer.{buffer_none}
use Rattle.volatile.specs.Proper.{AtHome, is_clean, is_dirty, ProperSlot, is_empty, is_full, dirty_holds, with_epochs}
use Rattle.volatile.specs.Slotted.{slot_kind}
use Rattle.volatile.specs.Stores.{cleaned_held}
use Rattle.volatile.specs.Swept.{SweptTo, swept_scanned, advance_slotted}
use Rattle.refine.specs.Pass.{Sweep, idle, aimed, next, Pass, pass_none, pass_begun, pass_visited, pass_passed}
use Rattle.refine.specs.State.{Ok}
use Rattle.refine.specs.Along.{Along, along_none, along_one, along_then}
use Rattle.refine.specs.Flush.{Keeps, ok_off, flushing_if_keeps}
use Rattle.refine.specs.WriteOut.{first, flushed_slot, flush_value, written_live, written_keeps}

-- the pass moves, and nothing else
moved_ok : {L : ℕ} {b : Bounds} {at : Sweep} {board work : List ℕ} {u : LogState} {g : Reference} → Ok L b at board work u g → {at' : Sweep}
    → Pass b work at' → Ok L b at' board work u g
moved_ok o pass =
    record {
      durable = o.durable;
      reads = o.reads;
      ring = o.ring;
      slotted = o.slotted;
      persisted = o.persisted;
      last = o.last;
      room = o.room;
      places = o.places;
      filter = o.filter;
      pass = pass;
      safe = o.safe;
      live = o.live;
    }

-- ---- a pass begins

pub begun_ok : {L : ℕ} {b : Bounds} {at : Sweep} {board work : List ℕ} {u : LogState} {g : Reference} → Ok L b at board work u g → at.target ≡ 0
    → (target : ℕ) → Waits b.persisted b.epoch target → Ok L b (aimed at target) board work u g
begun_ok o none target waits = moved_ok o (pass_begun o.pass none target waits)

module _ {L : ℕ} {b : Bounds} {at : Sweep} {board work : List ℕ} {u : LogState} {g : Reference} (o : Ok L b at board work u g)
    (waits : Waits b.persisted b.epoch at.target) where
  abbrev c : ℕ
  c = at.cursor

  abbrev target : ℕ
  target = at.target

  -- ---- a visit

  module _ (below : c < b.slots) where
    passed_keeps : (slot_in work c).dirty && leb (slot_in work c).tag target ≡ false → Keeps L b board g (nothing u work) (next at) g
    unfolding applied
    passed_keeps e = record { along = along_none b.lines L board g; after = moved_ok o (pass_passed o.pass waits below e) }

    dirty_keeps : (a tag : ℕ) → AtHome b c a → slot_in work c ≡ dirty_slot a tag → b.persisted < tag → tag ≤ b.epoch
        → Keeps L b board g (cleaning u work c) (next at) g
    unfolding cleaning writing_out
    dirty_keeps a tag home e lo hi =
        let t = hits (buffer_in work) u.buffered a in
        let f = flushing_if t u work in
        let x = first o c below a tag home e t refl in
        let h = dirty_holds f.work c a tag (flushed_slot o c below a tag home e t refl) in
        let st = cleaned_held x.after.slotted c below a h in
        rw e
        (written_keeps o c below a tag home e t refl (clean (data_in f.work c)) st (next at)
        (pass_visited x.after.pass waits below st refl)
        (rw (flush_value o.slotted u c below t) (written_live o c below a tag home e t refl)))

    cleaning_keeps : (slot_in work c).dirty ≡ true → Keeps L b board g (cleaning u work c) (next at) g
    cleaning_keeps d = go (slot_kind o.slotted c below)
      where
        go : ProperSlot b c (slot_in work c) → Keeps L b board g (cleaning u work c) (next at) g
        go (is_empty e) = absurd (false≢true (sym (ap (λ (s : Slot). s.dirty) e) ∙ d))
        go (is_full a home (is_clean e)) = absurd (false≢true (sym (ap (λ (s : Slot). s.dirty) e) ∙ d))
        go (is_full a home (is_dirty tag e lo hi)) = dirty_keeps a tag home e lo hi

    pub visiting_keeps : Keeps L b board g (visiting u work c target) (next at) g
    unfolding visiting
    visiting_keeps = go ((slot_in work c).dirty && leb (slot_in work c).tag target) refl
      where
        go : (t : Bool) → (slot_in work c).dirty && leb (slot_in work c).tag target ≡ t
            → Keeps L b board g (cond t (cleaning u work c) (nothing u work)) (next at) g
        go true e = cleaning_keeps (and_left (slot_in work c).dirty (leb (slot_in work c).tag target) e)
        go false e = passed_keeps e

  -- ---- the last step

  flush : Keeps L b board g (flushing_if true u work) at g
  flush = flushing_if_keeps o true

  -- the log's numbers, and the bounds, once the target is persisted
  abbrev pub u' : LogState
  u' =
      record {
        control = undo.advanced (undo.flushed u) target (dropped (applied board (flushing_if true u work).stores) (undo.flushed u) target);
        entries = u.entries;
        buffered = 0;
      }

  pub persisting_along : Along b.lines L board g (persisting board u work target).stores
  unfolding persisting flushing_if advance_stores
  persisting_along =
      along_then board (flushing_if true u work).stores (advance_stores (applied board (flushing_if true u work).stores) (undo.flushed u) target)
      flush.along (along_one (ok_off flush.after) _ _)

  pub persisting_ok : c ≡ b.slots
      → Ok L (with_epochs b target b.epoch) idle (applied board (persisting board u work target).stores) (persisting board u work target).work u'
      (persists g target)
  unfolding persisting flushing_if undo.flushed
  persisting_ok all =
      let p = flush.after in
      let swept = subst (λ (n : ℕ). SweptTo (flushing_if true u work).work n target) all p.pass.swept in
      let scanned = swept_scanned (flushing_if true u work).work b.slots target b.epoch 0 swept in
      let after : p.durable.persisted < target = omega (arith, p.persisted, waits.ahead) in
      let empty = buffer_none (buffer_in (flushing_if true u work).work) in
      rw applied_append
      record {
        durable = advanced p.durable target;
        reads = advance_reads (undo.flushed u) p.reads p.ring target (omega (arith, o.last, waits.ended));
        ring = o.ring;
        slotted = advance_slotted p.slotted target swept;
        persisted = refl;
        last = o.last;
        room = omega (arith, o.room);
        places = omega arith;
        filter = p.filter;
        pass = pass_none (with_epochs b target b.epoch) (flushing_if true u work).work;
        safe = advance_safe p.live target after waits.ended empty scanned;
        live = advance_live p.live target after waits.ended empty scanned;
      }
