-- Power-up keeps a board recoverable at every cut and restarts a controller; a commit keeps the invariant.
use Rattle.std.specs.Prelude.{ℕ, ◌+◌, ◌<◌, ◌≡◌, refl, List}
use Rattle.std.proofs.Common.{arith}
use Rattle.layout.specs.Limits.{last_epoch, most_ahead}
use Rattle.board.specs.Stores.{applied}
use Rattle.undo.specs.declared.LogState.{LogState}
use Rattle.undo.specs.Log as undo
use Rattle.undo.specs.Log.{recover_stores}
use Rattle.slots.specs.declared.Bounds.{Bounds}
use Rattle.reference.specs.Machine.{Reference, restarts, commits}
use Rattle.history.specs.Machine.{cleared}
use Rattle.base.specs.Every.{Every}
use Rattle.history.proofs.Keeps.{commit_safe, commit_live}
use Rattle.history.specs.Restore.{restored_all, restored_part}
use Rattle.history.proofs.Restore.{part_safe, power_up_safe, power_up_live}
use Rattle.durable.specs.Proper.{proper_restorable}
use Rattle.durable.specs.Reads.{reads_bounded, reads_persisted}
use Rattle.durable.specs.Recover.{Restorable, recover_cut, recover_reads}
use Rattle.durable.specs.View.{Reads, undo_with}
use Rattle.volatile.specs.Filter.{exact_restarted}
use Rattle.volatile.specs.Proper.{with_epochs}
use Rattle.layout.specs.Sizes.{WholeSets}
use Rattle.volatile.specs.Slotted.{zero_work, zero_slotted}
use Rattle.volatile.specs.Swept.{commit_slotted}
use Rattle.volatile.specs.View.{view_restarted, view_commit}
use Rattle.refine.specs.Pass.{Sweep, idle, pass_none, pass_commit}
use Rattle.refine.specs.State.{Off, Ok}
use Rattle.refine.specs.Along.{Along}

-- ---- power-up

module _ {N L : ℕ} {board : List ℕ} {g : Reference} (off : Off N L board g) where
  abbrev pub u : LogState
  u = undo_with off.control L

  restorable : Every (Restorable N) off.durable.log
  restorable = proper_restorable N most_ahead _ _ off.durable.log off.safe.proper

  pub recovery_along : Along N L board g (recover_stores board u)
  recovery_along k h =
      record {
        control = off.control;
        durable = restored_part k off.durable;
        reads = recover_cut u off.reads refl restorable k h;
        safe = part_safe off.safe k;
      }

  pub recovery_reads : Reads N L (applied board (recover_stores board u)) (undo.emptied off.control) (cleared (restored_all off.durable))
  recovery_reads = recover_reads u off.reads refl restorable

  abbrev pub restart_bounds : (slots : ℕ) → Bounds
  restart_bounds slots = record { lines = N; slots = slots; persisted = off.control.persisted; epoch = off.control.persisted + 1 }

  pub restart_ok : (slots : ℕ) → WholeSets slots
      → Ok L (restart_bounds slots) idle (applied board (recover_stores board u)) (zero_work slots) (undo_with (undo.emptied off.control) L) (restarts g)
  restart_ok slots sets =
      let p : off.control.persisted ≡ off.durable.persisted = reads_persisted off.reads in
      record {
        durable = cleared (restored_all off.durable);
        reads = recovery_reads;
        ring = refl;
        slotted = zero_slotted (restart_bounds slots) sets;
        persisted = p;
        last = omega (arith, reads_bounded off.reads);
        room = omega arith;
        places = omega arith;
        filter = exact_restarted slots;
        pass = pass_none (restart_bounds slots) (zero_work slots);
        safe = power_up_safe off.safe;
        live =
            rw (p, view_restarted off.durable slots) (power_up_live off.safe (omega arith));
      }

-- ---- commit

pub commit_ok : {L : ℕ} {b : Bounds} {at : Sweep} {board work : List ℕ} {u : LogState} {g : Reference} → Ok L b at board work u g → b.epoch < last_epoch
    → b.epoch < b.persisted + most_ahead → Ok L (with_epochs b b.persisted (b.epoch + 1)) at board work u (commits g)
commit_ok {b = b} {work = work} {u = u} o early window =
    record {
      durable = o.durable;
      reads = o.reads;
      ring = o.ring;
      slotted = commit_slotted o.slotted;
      persisted = o.persisted;
      last = omega arith;
      room = o.room;
      places = o.places;
      filter = o.filter;
      pass = pass_commit o.pass;
      safe = commit_safe o.live o.safe;
      live = rw view_commit (commit_live o.live (omega (arith, o.persisted)));
    }
