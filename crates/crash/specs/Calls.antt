-- What each call comes to on a controller at work, once its tests have passed.
use Rattle.std.specs.Prelude.{ℕ, ◌+◌, ◌-◌, ◌≤◌, ◌<◌, Bool, not, cond, ◌&&◌, ◌||◌, List, leb, length}
use Rattle.std.proofs.Math.Path.{◌≡◌, refl, sym}
use Rattle.std.proofs.Common.{ap, subst, ◌∙◌, arith}
use Rattle.std.proofs.Math.Bool.{true, false}
use borrow.Author.Tests.{ltb-true, ltb-false, eqb-false, ne_eqb}
use Rattle.std.proofs.Math.Dec.{ltb, eqb}
use Rattle.layout.specs.Limits.{buffer_places, last_epoch, most_ahead}
use Rattle.layout.specs.Memory.{work_words, buffer_in, slot_in, data_in}
use Rattle.board.specs.Laws.{applied_append}
use Rattle.board.specs.Stores.{applied}
use Rattle.layout.specs.Words.{bit}
use Rattle.status.specs.declared.Status.TheVariants as status
use Rattle.undo.specs.declared.LogState.{LogState}
use Rattle.undo.specs.Filter.{hits}
use Rattle.undo.specs.Log.{counted, flushed}
use Rattle.slots.specs.declared.Bounds.{Bounds}
use Rattle.slots.specs.declared.Spot.{Spot}
use Rattle.steps.specs.Effects.{Effect, nothing, flushing, flushing_if, writing_out, emptying, entry_for, logged, bringing, storing_held, loading}
use Rattle.slots.specs.Slots.{entry_due, undo_due}
use Rattle.steps.specs.Effects.{storing, evicting, cleaning, visiting, persisting}
use Rattle.slots.specs.Laws.{spot_below, spot_belongs, spot_holds}
use Rattle.slots.specs.Sets.{spot_of}
use Rattle.slots.specs.Slots.{holds, dirtied, dirty_at, dirty_slots}
use Rattle.checks.specs.declared.Registers.{Registers}
use Rattle.checks.specs.declared.View.{View}
use Rattle.ranges.specs.Ranges.{Waits}
use Rattle.checks.specs.Promises.{Running}
use Rattle.checks.specs.Registers.{leaving, recounted, committed, begun, stepped, ended, scan_target}
use Rattle.checks.specs.View.{view_of, bounds_of, undo_of}
use Rattle.picl.specs.Calls as calls
use Rattle.picl.specs.Calls.{unstored, Call, carried, carried_at, load_at, load_outcome, store_at, store_outcome, evict_at, evict_outcome}
use Rattle.picl.specs.Calls.{scan_at, scan_outcome}
use Rattle.picl.specs.Answers.{Outcome, success, cut_off, answer_of}
use Rattle.board.specs.Verdict.{due}
use Rattle.reference.specs.Machine.{Reference, stores, commits, persists, does}
use Rattle.volatile.specs.Cache.{Alone}
use Rattle.volatile.specs.Dirty.{dirty_changed, dirty_kept}
use Rattle.volatile.specs.Moves.{Moved, moved_load, moved_evict, moved_store, moved_visit, moved_persist}
use Rattle.volatile.specs.Proper.{AtHome, FullSlot}
use Rattle.volatile.specs.Sets.{spot_alone}
use Rattle.refine.specs.Along.{Along, along_none, along_then}
use Rattle.refine.specs.Flush.{Keeps, nothing_keeps}
use Rattle.refine.specs.Empty.{Fewer, same_fewer, flush_fewer, emptying_keeps, emptying_fewer}
use Rattle.refine.specs.Pass.{Sweep, aimed}
use Rattle.refine.specs.Pass as pass
use Rattle.refine.specs.Scan.{begun_ok, visiting_keeps, persisting_along, persisting_ok}
use Rattle.refine.specs.State.{Ok}
use Rattle.refine.specs.Restart.{commit_ok}
use Rattle.refine.specs.Store.{storing_held_keeps}
use Rattle.refine.specs.Load.{full_reads, loading_keeps, loading_full, loading_fewer}
use Rattle.crash.specs.Statement.{Machine, answered, seen_call, count_scan}
use Rattle.crash.specs.State.{sweep_of, Up, Down, is_up, up_of}
use Rattle.crash.specs.Reached.{reached, aim_outside, aim_inside, Onward, farther, done, onward_none}
use Rattle.crash.specs.Fares.{carried_out, Fares, goes}

-- with the current off no call but a power-up passes its tests
pub down_stays : {N L : ℕ} {m : Machine} {g : Reference} → Down N L m g → (v : View) → Running m.board m.work m.registers v → ⊥
down_stays {m = m} d v r = omega (arith, r.proper.ahead, ap (λ (x : Registers). x.epoch) d.registers)

-- an effect that keeps the invariant, as a call's outcome
carried_goes : {N L : ℕ} {b : Bounds} {to : Sweep} {m : Machine} {g : Reference} {e : Effect} {g' : Reference} (c : Call)
    (base : Registers) (value : ℕ) → b.lines ≡ N → Keeps L b m.board g e to g' → base.epoch ≡ b.epoch → sweep_of base ≡ to
    → e.undo.buffered < buffer_places → base.dirty ≡ dirty_slots e.work b.slots → does g (seen_call c value) ≡ g'
    → length m.work ≡ work_words b.slots
    → Onward (count_scan (seen_call c value)) (reached m.registers g) (reached base g')
    → Fares N L m g c (due (carried value base e))
carried_goes {N} {L} {b} {m = m} {g} {e} {g' = g'} c base value lines x epoch at few count moves words further =
    goes (carried value base e) (subst (λ (n : ℕ). Along n L m.board g e.stores) lines x.along)
    (rw moves
    (is_up (subst (λ (n : ℕ). Up n L (carried_out m (carried value base e)) g') lines (up_of x.after (leaving base e.undo) epoch refl at few count))))
    (x.after.slotted.words ∙ sym words) (rw moves further)

-- a line that was brought is clean, so its store makes an entry
due_found : (board work : List ℕ) (u : LogState) (a epoch : ℕ) (spot : Spot) → entry_due epoch (slot_in (loading board u work a spot).work spot.slot) ≡ true
    → undo_due work spot epoch ≡ true
unfolding undo_due loading
due_found board work u a epoch spot d = go spot.held d
  where
    go : (t : Bool) → entry_due epoch (slot_in (cond t (nothing u work) (bringing board u work spot.slot a)).work spot.slot) ≡ true
        → not t || entry_due epoch (slot_in work spot.slot) ≡ true
    go true d = d
    go false d = refl

-- a full buffer was flushed
storing_held_few : (u : LogState) (work : List ℕ) (k a epoch value : ℕ) → u.buffered < buffer_places → (storing_held u work k a epoch value).undo.buffered < buffer_places
unfolding storing_held flushing_if flushed
storing_held_few u work k a epoch value h =
    go (entry_due epoch (slot_in work k)) (eqb (u.buffered + 1) buffer_places) refl
    (dirtied (logged u work (entry_for u.control.persisted epoch a (slot_in work k)) (data_in work k)) k a epoch value)
    (dirtied work k a epoch value)
  where
    go : (t s : Bool) → eqb (u.buffered + 1) buffer_places ≡ s → (x y : List ℕ)
        → (cond t (cond s (flushing (counted u) x) (nothing (counted u) x)) (nothing u y)).undo.buffered < buffer_places
    go true true e x y = omega arith
    go true false e x y = let n : u.buffered + 1 ≡ buffer_places → ⊥ = eqb-false _ _ e in omega arith
    go false s e x y = h

storing_few : (board work : List ℕ) (u : LogState) (a epoch value : ℕ) (spot : Spot) → (loading board u work a spot).undo.buffered < buffer_places
    → (storing board u work a spot epoch value).undo.buffered < buffer_places
unfolding storing
storing_few board work u a epoch value spot h =
    storing_held_few (loading board u work a spot).undo (loading board u work a spot).work spot.slot a epoch value h

visiting_fewer : (u : LogState) (work : List ℕ) (k target : ℕ) → Fewer u (visiting u work k target).undo
unfolding visiting cleaning writing_out
visiting_fewer u work k target = go ((slot_in work k).dirty && leb (slot_in work k).tag target)
  where
    go : (t : Bool) → Fewer u (cond t (cleaning u work k) (nothing u work)).undo
    go true = flush_fewer (hits (buffer_in work) u.buffered (slot_in work k).address) u work
    go false = same_fewer u

persisting_none : (board work : List ℕ) (u : LogState) (target : ℕ) → (persisting board u work target).undo.buffered ≡ 0
unfolding persisting flushing_if flushed
persisting_none board work u target = refl

-- ---- a controller at work

module _ {N L : ℕ} {m : Machine} {g : Reference} (up : Up N L m g) where
  abbrev pub v : View
  v = view_of m.board m.work

  abbrev pub b : Bounds
  b = bounds_of v m.registers

  abbrev pub u : LogState
  u = undo_of v m.registers

  abbrev pub at : Sweep
  at = sweep_of m.registers

  lines : b.lines ≡ N
  unfolding view_of
  lines = up.lines

  words : length m.work ≡ work_words b.slots
  words = up.ok.slotted.words

  -- the count, before a call and after an effect on slot k
  count_before : m.registers.dirty ≡ dirty_slots m.work b.slots
  unfolding view_of
  count_before = up.counted

  slot_goes : {to : Sweep} {g' : Reference} {e : Effect} (c : Call) (base : Registers) (value k : ℕ) → k < b.slots
      → Keeps L b m.board g e to g' → Moved b.slots k m.work e.work → base.epoch ≡ b.epoch
      → base.dirty ≡ m.registers.dirty → sweep_of base ≡ to → e.undo.buffered < buffer_places → does g (seen_call c value) ≡ g'
      → Onward (count_scan (seen_call c value)) (reached m.registers g) (reached base g')
      → Fares N L m g c (due (carried_at value base m.work k e))
  slot_goes {e = e} c base value k below x moved epoch dirty at few seen further =
      let count : base.dirty - bit (dirty_at m.work k) + bit (dirty_at e.work k) ≡ dirty_slots e.work b.slots =
      rw (dirty, count_before) (dirty_changed up.ok.slotted k below x.after.slotted refl moved.others) in
      carried_goes c (recounted base (dirty_at m.work k) (dirty_at e.work k)) value lines x epoch at few count seen words further

  all : ltb m.registers.cursor v.slots ≡ false → m.registers.cursor ≡ v.slots
  all e = omega (arith, ltb-false m.registers.cursor v.slots e, up.ok.pass.within)

  module _ (a : ℕ) (named : a < v.shape.lines) where
    abbrev pub spot : Spot
    spot = spot_of m.work v.slots a

    below : spot.slot < b.slots
    below = spot_below m.work v.slots a up.ok.slotted.sets.some

    home : AtHome b spot.slot a
    home =
        record {
          inside = named;
          fits = omega (arith, up.ok.reads.sized.sizes.lines_most, named);
          home = spot_belongs m.work v.slots a;
        }

    alone : Alone m.work b.slots spot.slot a
    alone = spot_alone up.ok.slotted a

    held : spot.held ≡ holds m.work spot.slot a
    held = spot_holds m.work v.slots a

    loads : Keeps L b m.board g (loading m.board u m.work a spot) at g
    loads = loading_keeps up.ok spot.slot below a home alone spot.held held

    fewer : Fewer u (loading m.board u m.work a spot).undo
    fewer = loading_fewer up.ok spot.slot below a home alone spot.held held

    full : FullSlot b a (slot_in (loading m.board u m.work a spot).work spot.slot)
    full = loading_full up.ok spot.slot below a home alone spot.held held

    pub load_goes : Fares N L m g (calls.load a) (due (load_outcome m.board m.work m.registers a v))
    unfolding load_outcome load_at
    load_goes =
        slot_goes (calls.load a) m.registers _ spot.slot below loads
        (moved_load b.slots spot.slot m.work words u m.board a spot.held) refl refl refl
        (omega (arith, fewer.buffered, up.few)) refl (onward_none _)

    pub load_up_value : (allowance : ℕ)
        → (answered allowance m.registers m.board m.work (due (load_outcome m.board m.work m.registers a v))).status ≡ status.Ok
        → (answered allowance m.registers m.board m.work (due (load_outcome m.board m.work m.registers a v))).value ≡ g.lines a
    unfolding load_outcome load_at answer_of
    load_up_value allowance = go (leb (length (loading m.board u m.work a spot).stores) allowance)
      where
        go : (t : Bool) → (cond t (success (load_at m.board m.work m.registers u a spot)) (cut_off allowance)).status ≡ status.Ok
            → (cond t (success (load_at m.board m.work m.registers u a spot)) (cut_off allowance)).value ≡ g.lines a
        go true ok = full_reads loads.after spot.slot a below full
        go false ok = let z : ◌≡◌ {A = ℕ} 0 1 = cc in absurd (omega arith)

    pub evict_goes : Fares N L m g (calls.evict a) (due (evict_outcome m.work m.registers a v))
    unfolding evict_outcome evict_at evicting
    evict_goes = go spot.held
      where
        go : (t : Bool)
            → Fares N L m g (calls.evict a)
            (due (carried_at (bit t) m.registers m.work spot.slot (cond t (emptying u m.work spot.slot) (nothing u m.work))))
        go true =
            slot_goes (calls.evict a) m.registers 1 spot.slot below (emptying_keeps up.ok spot.slot below)
            (moved_evict b.slots spot.slot m.work words u true) refl refl refl
            (omega (arith, (emptying_fewer u m.work spot.slot).buffered, up.few)) refl (onward_none _)
        go false =
            slot_goes (calls.evict a) m.registers 0 spot.slot below (nothing_keeps up.ok)
            (moved_evict b.slots spot.slot m.work words u false) refl refl refl up.few refl (onward_none _)

    -- "Store .. as load if not held. Then ..": the board and the reference machine go on from where the load left them
    store_keeps : (value : ℕ)
        → (undo_due m.work spot m.registers.epoch ≡ true → v.control.length + m.registers.buffered + 1 ≤ v.shape.entries)
        → Keeps L b m.board g (storing m.board u m.work a spot m.registers.epoch value) at (stores g a value)
    unfolding storing
    store_keeps value room =
        let l = loading m.board u m.work a spot in
        let x = storing_held_keeps loads.after spot.slot below a home value (omega (arith, fewer.buffered, up.few))
        (λ d. omega (arith, room (due_before d), fewer.used, up.ok.ring)) full in
        record {
          along = along_then m.board l.stores (storing_held l.undo l.work spot.slot a b.epoch value).stores loads.along x.along;
          after = rw applied_append x.after;
        }
      where
        due_before : entry_due m.registers.epoch (slot_in (loading m.board u m.work a spot).work spot.slot) ≡ true
            → undo_due m.work spot m.registers.epoch ≡ true
        due_before d = due_found m.board m.work u a m.registers.epoch spot d

    pub store_goes : (value : ℕ)
        → (undo_due m.work spot m.registers.epoch ≡ true → v.control.length + m.registers.buffered + 1 ≤ v.shape.entries)
        → Fares N L m g (calls.store a value) (due (store_outcome m.board m.work m.registers a value v))
    unfolding store_outcome store_at
    store_goes value room =
        slot_goes (calls.store a value) m.registers 0 spot.slot below (store_keeps value room)
        (moved_store b.slots spot.slot m.work words u m.board a spot.held m.registers.epoch value) refl refl refl
        (storing_few m.board m.work u a m.registers.epoch value spot (omega (arith, fewer.buffered, up.few))) refl (onward_none _)

  pub commit_goes : m.registers.epoch < last_epoch → m.registers.epoch < v.control.persisted + most_ahead
      → Fares N L m g calls.commit (due (unstored 0 (committed m.registers) m.work))
  unfolding applied
  commit_goes early window =
      goes (unstored 0 (committed m.registers) m.work) (along_none N L m.board g)
      (is_up
      (subst (λ (n : ℕ). Up n L (record { board = m.board; work = m.work; registers = committed m.registers }) (commits g)) lines
      (up_of (commit_ok up.ok early window) (committed m.registers) refl refl refl up.few count_before)))
      refl (onward_none _)

  -- the board's P is the uncached machine's p
  named : v.control.persisted ≡ g.persisted
  unfolding view_of
  named = up.ok.persisted ∙ up.ok.safe.named

  pub begin_goes : (target : ℕ) → m.registers.target ≡ 0 → Waits v.control.persisted m.registers.epoch target
      → Fares N L m g (calls.begin target) (due (unstored 0 (begun m.registers target) m.work))
  unfolding applied
  begin_goes target none waits =
      let before = aim_outside m.registers g.persisted none in
      let behind = aim_inside (begun m.registers target) g.persisted (omega (arith, waits.ahead)) in
      goes (unstored 0 (begun m.registers target) m.work) (along_none N L m.board g)
      (is_up
      (subst (λ (n : ℕ). Up n L (record { board = m.board; work = m.work; registers = begun m.registers target }) g) lines
      (up_of (begun_ok up.ok none target waits) (begun m.registers target) refl refl refl up.few count_before)))
      refl (farther refl (omega arith) (omega (arith, before, behind, waits.ahead, named)))

  -- ---- scan

  abbrev pub target : ℕ
  target = scan_target m.registers v.control.persisted

  abbrev pub visit : Outcome
  visit =
      carried_at 0 (stepped (begun m.registers target)) m.work m.registers.cursor (visiting u m.work m.registers.cursor target)

  abbrev pub persist : Outcome
  persist = carried target (ended m.registers) (persisting m.board u m.work target)

  -- the uncached machine aims at the same epoch
  same_aim : scan_target m.registers g.persisted ≡ target
  same_aim = ap (scan_target m.registers) (sym named)

  -- inside a pass, or at the beginning of the one that the scan begins
  in_pass : Waits b.persisted b.epoch target → Ok L b (aimed at target) m.board m.work u g
  in_pass waits = go up.ok.pass.runs
    where
      go : pass.Runs b at → Ok L b (aimed at target) m.board m.work u g
      go (pass.outside none c) = begun_ok up.ok none target waits
      go (pass.inside w) =
          subst (λ (t : ℕ). Ok L b (aimed at t) m.board m.work u g)
          (sym (aim_inside m.registers v.control.persisted (omega (arith, w.ahead)))) up.ok

  pub scan_goes : Waits v.control.persisted m.registers.epoch target → Fares N L m g calls.scan (due (scan_outcome m.board m.work m.registers v))
  unfolding scan_outcome scan_at view_of
  scan_goes waits = go (ltb m.registers.cursor v.slots) refl
    where
      go : (t : Bool) → ltb m.registers.cursor v.slots ≡ t → Fares N L m g calls.scan (due (cond t visit persist))
      go true e =
          let below = ltb-true m.registers.cursor v.slots e in
          let behind = aim_inside (begun m.registers target) g.persisted (omega (arith, waits.ahead)) in
          slot_goes calls.scan (stepped (begun m.registers target)) 0 m.registers.cursor below (visiting_keeps (in_pass waits) waits below)
          (moved_visit b.slots m.registers.cursor m.work words u target) refl refl refl
          (omega (arith, (visiting_fewer u m.work m.registers.cursor target).buffered, up.few)) refl
          (farther refl refl (omega (arith, same_aim, behind)))
      go false e =
          let some : eqb target 0 ≡ false = ne_eqb target 0 (omega (arith, waits.ahead)) in
          let done_ok = persisting_ok (in_pass waits) waits (all e) in
          let kept = moved_persist b.slots b.slots m.work words u m.board target in
          goes persist (subst (λ (n : ℕ). Along n L m.board g persist.stores) lines (persisting_along (in_pass waits) waits))
          (rw some
          (is_up
          (subst (λ (n : ℕ). Up n L (carried_out m persist) (persists g target)) lines
          (up_of done_ok persist.registers refl (persisting_none m.board m.work u target) refl (omega arith)
          (count_before ∙ sym (dirty_kept m.work persist.work b.slots kept.others))))))
          (done_ok.slotted.words ∙ sym words)
          (rw some (done (omega (arith, same_aim))))
