-- A flush keeps the invariant, at every cut.
use Rattle.std.specs.Prelude.{ℕ, ◌+◌, ◌≤◌, refl, Bool, List}
use Rattle.std.proofs.Common.{sym, arith}
use Rattle.std.proofs.Math.Path.{subst}
use Rattle.std.proofs.Math.Bool.{true, false}
use Rattle.layout.specs.Limits.{most_ahead}
use Rattle.layout.specs.Memory.{buffer_in}
use Rattle.board.specs.Stores.{applied}
use Rattle.undo.specs.declared.LogState.{LogState}
use Rattle.undo.specs.Log as undo
use Rattle.slots.specs.declared.Bounds.{Bounds}
use Rattle.steps.specs.Effects.{Effect, nothing, flushing, flushing_if}
use Rattle.history.specs.Machine.{Volatile, flushed}
use Rattle.reference.specs.Machine.{Reference}
use Rattle.history.specs.Invariant.{Live}
use Rattle.history.proofs.Keeps.{flush_safe, flush_live}
use Rattle.durable.specs.Flush.{flush_cut, flush_reads}
use Rattle.volatile.specs.Filter.{flushed_exact}
use Rattle.volatile.specs.Slotted.{with_slotted}
use Rattle.volatile.specs.View.{volatile_of, flushed_words, view_flushed}
use Rattle.refine.specs.Pass.{Sweep, pass_with}
use Rattle.refine.specs.State.{Off, Ok}
use Rattle.refine.specs.Along.{Along, along_none}

-- What an effect keeps: every cut of its stores leaves a board that recovers, and all of them a controller at work.
pub record Keeps (L : ℕ) (b : Bounds) (board : List ℕ) (g : Reference) (e : Effect) (at : Sweep) (g' : Reference) : Type 0 where
  pub along : Along b.lines L board g e.stores
  pub after : Ok L b at (applied board e.stores) e.work e.undo g'

module _ {L : ℕ} {b : Bounds} {at : Sweep} {board work : List ℕ} {u : LogState} {g : Reference} (o : Ok L b at board work u g) where
  pub ok_off : Off b.lines L board g
  ok_off = record { control = u.control; durable = o.durable; reads = o.reads; safe = o.safe }

  pub nothing_keeps : Keeps L b board g (nothing u work) at g
  unfolding applied
  nothing_keeps = record { along = along_none b.lines L board g; after = o }

  abbrev w : Volatile
  w = volatile_of work b.slots b.epoch u.buffered

  pub flushing_keeps : Keeps L b board g (flushing u work) at g
  unfolding undo.flushed
  flushing_keeps =
      let held : u.control.length + u.buffered ≤ u.entries = omega (arith, o.ring, o.room) in
      let words = flushed_words o.slotted u in
      let buffer = undo.flushed_buffer u (buffer_in work) in
      record {
        along =
            λ k h.
            record {
              control = u.control;
              durable = o.durable;
              reads = flush_cut u o.reads o.ring held (buffer_in work) k h;
              safe = o.safe;
            };
        after =
            record {
              durable = flushed o.durable w;
              reads = flush_reads u o.reads o.ring held (buffer_in work) w refl;
              ring = o.ring;
              slotted = with_slotted o.slotted buffer words;
              persisted = o.persisted;
              last = o.last;
              room = omega (arith, o.room);
              places = omega arith;
              filter = flushed_exact o.slotted u o.filter;
              pass = pass_with o.pass o.slotted buffer words;
              safe = flush_safe o.live o.safe;
              live =
                  subst (λ (x : Volatile). Live b.lines most_ahead (flushed o.durable w) x g)
                  (sym (view_flushed o.slotted u b.epoch u.buffered)) (flush_live o.live);
            };
      }

  pub flushing_if_keeps : (t : Bool) → Keeps L b board g (flushing_if t u work) at g
  unfolding flushing_if
  flushing_if_keeps true = flushing_keeps
  flushing_if_keeps false = nothing_keeps
