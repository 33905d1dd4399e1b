-- Writing a dirty line out keeps the invariant, whatever then becomes of its slot: emptied, or held on clean.
use Rattle.std.specs.Prelude.{ℕ, ◌+◌, ◌<◌, ◌≡◌, Bool, List, ◌++◌}
use Rattle.std.proofs.Math.Path.{refl}
use Rattle.std.proofs.Common.{sym, ap, subst, ◌∙◌}
use Rattle.std.proofs.Math.Bool.{true, false}
use Rattle.layout.specs.declared.Slot.{Slot}
use Rattle.layout.specs.Limits.{most_ahead}
use Rattle.layout.specs.Memory.{lines_at, buffer_in, slot_in, data_in}
use Rattle.board.specs.Laws.{applied_append}
use Rattle.board.specs.Stores.{one, applied}
use Rattle.undo.specs.declared.LogState.{LogState}
use Rattle.undo.specs.Log as undo
use Rattle.undo.specs.Filter.{hits}
use Rattle.slots.specs.declared.Bounds.{Bounds}
use Rattle.steps.specs.Effects.{Effect, flushing_if}
use Rattle.slots.specs.Slots.{dirty_slot}
use Rattle.history.specs.Machine.{Line, clean, dirty, Durable, Volatile, Silent, written, holding, recall}
use Rattle.reference.specs.Machine.{Reference}
use Rattle.history.specs.Invariant.{Safe, Live}
use Rattle.history.proofs.Keeps.{write_out_safe, write_out_live}
use Rattle.durable.specs.View.{Reads}
use Rattle.durable.specs.Seen.{line_reads}
use Rattle.base.specs.Listed.{listed}
use Rattle.durable.specs.View.{buffer_of}
use Rattle.volatile.specs.Filter.{Exact, missed_silent}
use Rattle.volatile.specs.Proper.{AtHome}
use Rattle.volatile.specs.Slotted.{Slotted, dirty_cached, with_slot, with_value}
use Rattle.volatile.specs.Stores.{Stored, LineStored}
use Rattle.volatile.specs.View.{volatile_of, with_lines, view_stored, flushed_words}
use Rattle.refine.specs.Pass.{Sweep, Pass}
use Rattle.refine.specs.State.{Ok}
use Rattle.refine.specs.Along.{along_one, along_then}
use Rattle.refine.specs.Flush.{Keeps, ok_off, flushing_if_keeps}

-- Slot k is stored to, and the board may have moved: all else stays.
pub ok_with : {L : ℕ} {b : Bounds} {at : Sweep} {board work : List ℕ} {u : LogState} {g : Reference} (o : Ok L b at board work u g) {k : ℕ} {s : Slot} {word : ℕ}
    {lines : ℕ → Line} {work' : List ℕ} → Stored b work k s word lines work' → (at' : Sweep) → Pass b work' at'
    → (board' : List ℕ) (d : Durable) → Reads b.lines L board' u.control d → b.persisted ≡ d.persisted → (g' : Reference)
    → Safe b.lines most_ahead d g'
    → Live b.lines most_ahead d (with_lines (volatile_of work b.slots b.epoch u.buffered) lines) g' → Ok L b at' board' work' u g'
ok_with {b = b} {u = u} o st at' pass board' d reads named g' safe live =
    record {
      durable = d;
      reads = reads;
      ring = o.ring;
      slotted = st.slotted;
      persisted = named;
      last = o.last;
      room = o.room;
      places = o.places;
      filter = rw st.buffer o.filter;
      pass = pass;
      safe = safe;
      live =
          subst (λ (x : Volatile). Live b.lines most_ahead d x g') (sym (view_stored st b.epoch u.buffered)) live;
    }

-- a flush leaves the slots
module _ {b : Bounds} {work : List ℕ} (slotted : Slotted b work) (u : LogState) (k : ℕ) (below : k < b.slots) where
  pub flush_slot : (t : Bool) → slot_in (flushing_if t u work).work k ≡ slot_in work k
  unfolding flushing_if
  flush_slot true = with_slot slotted _ (flushed_words slotted u) k below
  flush_slot false = refl

  pub flush_value : (t : Bool) → data_in (flushing_if t u work).work k ≡ data_in work k
  unfolding flushing_if
  flush_value true = with_value slotted _ (flushed_words slotted u) k below
  flush_value false = refl

-- a write-out flushes first where the filter has both bits of the address, for an entry of that address or for others': so no buffered
-- entry is left that tells the line
flush_silent : (u : LogState) (work : List ℕ) → Exact (buffer_in work) u.buffered → (a e : ℕ) (t : Bool) → t ≡ hits (buffer_in work) u.buffered a
    → Silent (buffer_of (buffer_in (flushing_if t u work).work) (flushing_if t u work).undo.buffered) e a
unfolding flushing_if listed recall undo.flushed
flush_silent u work exact a e true h = λ d. refl
flush_silent u work exact a e false h = missed_silent (buffer_in work) u.buffered exact a (sym h) e

module _ {L : ℕ} {b : Bounds} {at : Sweep} {board work : List ℕ} {u : LogState} {g : Reference} (o : Ok L b at board work u g) (k : ℕ)
    (below : k < b.slots) (a tag : ℕ) (home : AtHome b k a) (slot : slot_in work k ≡ dirty_slot a tag) (t : Bool)
    (test : t ≡ hits (buffer_in work) u.buffered a) where
  abbrev flush : Effect
  flush = flushing_if t u work

  abbrev value : ℕ
  value = data_in work k

  pub first : Keeps L b board g flush at g
  first = flushing_if_keeps o t

  abbrev w : Volatile
  w = volatile_of flush.work b.slots b.epoch flush.undo.buffered

  abbrev d : Durable
  d = first.after.durable

  pub flushed_slot : slot_in flush.work k ≡ dirty_slot a tag
  flushed_slot = flush_slot o.slotted u k below t ∙ slot

  pub flushed_cache : w.cache a ≡ dirty tag value
  flushed_cache =
      dirty_cached first.after.slotted k a below tag flushed_slot ∙ ap (dirty tag) (flush_value o.slotted u k below t)

  logged : Silent w.buffer d.persisted a
  logged = flush_silent u work o.filter a d.persisted t test

  pub written_live : Live b.lines most_ahead (written d a value) (holding w a (clean value)) g
  written_live = write_out_live first.after.live a flushed_cache

  -- the line store, and then what becomes of the slot
  pub written_keeps : (l : Line) {s : Slot} {word : ℕ} {work' : List ℕ} → LineStored b flush.work k s word a l work' → (at' : Sweep) → Pass b work' at'
      → Live b.lines most_ahead (written d a value) (holding w a l) g
      → Keeps L b board g (record { stores = flush.stores ++ one (lines_at u.entries + a) value; undo = flush.undo; work = work' }) at' g
  written_keeps l st at' pass live =
      let line : ℕ = lines_at u.entries + a in
      let same : lines_at L + a ≡ line = ap (λ (n : ℕ). lines_at n + a) (sym o.ring) in
      record {
        along = along_then board flush.stores (one line value) first.along (along_one (ok_off first.after) line value);
        after =
            rw applied_append
            (ok_with first.after st at' pass (applied (applied board flush.stores) (one line value)) (written d a value)
            (subst (λ (x : ℕ). Reads b.lines L (applied (applied board flush.stores) (one x value)) flush.undo.control (written d a value)) same
            (line_reads first.after.reads a value home.inside))
            first.after.persisted g (write_out_safe first.after.live first.after.safe a flushed_cache logged) live);
      }
