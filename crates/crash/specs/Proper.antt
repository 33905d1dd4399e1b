-- A controller that runs passes its tests: only what a call asks for can be refused.
use Rattle.std.specs.Prelude.{Ok, Err, ℕ, ◌+◌, ◌-◌, ◌%◌, ◌<◌, ◌≡◌, Bool, ◌&&◌, ◌||◌, List, [], ◌∷◌, ◌++◌, ltb, leb, length}
use Rattle.std.proofs.Math.Path.{refl}
use Rattle.std.proofs.Common.{sym, ap, ◌∙◌, arith}
use Rattle.std.proofs.Math.Bool.{true, false, not, cond, or-true}
use Rattle.std.proofs.Math.Logic.{inl, inr}
use borrow.Author.Tests.{lt-ltb, le-leb, eq-eqb, eqb-true, ltb-true}
use Rattle.std.proofs.Math.Dec.{eqb}
use Rattle.base.specs.Every.{Every}
use Rattle.base.specs.Several.{all_of, any_of}
use Rattle.base.specs.Tests.{and_right, and_true}
use Rattle.layout.specs.Limits.{last_epoch, ways, most_slots, buffer_places, most_ahead}
use Rattle.layout.specs.Memory.{filter_words, buffer_in, slots_of, work_words, control_in, shape_in}
use Rattle.status.specs.declared.Status.{Status}
use Rattle.status.specs.declared.Status.TheVariants as status
use Rattle.undo.specs.Filter.{ones_of}
use Rattle.undo.specs.Laws.{formed_spans, buffered_formed}
use Rattle.undo.specs.Log.{buffered_in}
use Rattle.slots.specs.Sets.{places_of, proper_set, spot_of}
use Rattle.slots.specs.Slots.{dirty_at, undo_due}
use Rattle.checks.specs.declared.Registers.{Registers}
use Rattle.checks.specs.declared.View.{View}
use Rattle.checks.specs.Refusals.{unvalued, Row, then, line_rows, room_rows, memories_checked, running_checked, ready_checked, named_checked, line_checked, store_checked, commit_checked, begin_checked, scan_checked}
use Rattle.checks.specs.Registers.{committed, begun}
use Rattle.checks.specs.View.{view_of, bounds_of, good_shape, good_slots, good_work, proper_epoch, proper_counts, proper_pass, proper_registers, waits, miscounted, good_buffer, good_filter}
use Rattle.reference.specs.Machine.{Reference}
use Rattle.history.proofs.Lines.{entries_proper}
use Rattle.volatile.specs.Buffer.{entries_buffer_proper}
use Rattle.volatile.specs.Dirty.{dirty_most, none_dirty, all_dirty}
use Rattle.volatile.specs.Filter.{Exact, exact_marked}
use Rattle.volatile.specs.Sets.{Ascending, ascending_below, places_ascending, set_proper}
use Rattle.picl.specs.Answers as picl
use Rattle.board.specs.Verdict.{refused, due}
use Rattle.picl.specs.Answers.{success, cut_off, answer_of}
use Rattle.picl.specs.Calls as calls
use Rattle.picl.specs.Calls.{verdict_of, Call, unstored, filter_bits_verdict, judged, load_outcome, store_outcome, evict_outcome}
use Rattle.picl.specs.Calls.{scan_outcome}
use Rattle.refine.specs.Pass.{Runs, outside, inside}
use Rattle.crash.specs.Statement.{call, Machine, Both, made, persisted_on, Running, Spans}
use Rattle.crash.specs.Beyond.{answers_to, Among}
use Rattle.crash.specs.State.{sweep_of, Up, Holds, is_up, is_down}
use Rattle.crash.specs.Power.{shape_good}

-- a refusal answers its number, a call that goes through 0 or 12, and one that owes no store 0
refusal_answered : (k : ℕ) (r : Registers) (s : Status) → (answer_of k r (refused s 0)).status ≡ s
unfolding answer_of
refusal_answered k r s = refl

due_answered : (k : ℕ) (r : Registers) (o : picl.Outcome) (between : List Status)
    → Among (status.Ok ∷ between ++ (status.Cut ∷ [])) (answer_of k r (due o)).status
unfolding answer_of
due_answered k r o between = go (leb (length o.stores) k)
  where
    at_end : (xs : List Status) → Among (xs ++ (status.Cut ∷ [])) status.Cut
    at_end [] = inl refl
    at_end (x ∷ xs) = inr (at_end xs)

    go : (t : Bool) → Among (status.Ok ∷ between ++ (status.Cut ∷ [])) (cond t (success o) (cut_off k)).status
    go true = inl refl
    go false = inr (at_end between)

unstored_answered : (k : ℕ) (r : Registers) (value : ℕ) (r' : Registers) (work : List ℕ)
    → (answer_of k r (due (unstored value r' work))).status ≡ status.Ok
unfolding answer_of
unstored_answered k r value r' work = rw (le-leb 0 k (omega arith))

refusal_not_room : (k : ℕ) (r : Registers) → (answer_of k r (refused status.Address 0)).status ≡ status.Room → ⊥
unfolding answer_of
refusal_not_room k r e = let z : ◌≡◌ {A = ℕ} 0 1 = cc in omega arith

due_not_room : (k : ℕ) (r : Registers) (o : picl.Outcome) → (answer_of k r (due o)).status ≡ status.Room → ⊥
unfolding answer_of
due_not_room k r o = go (leb (length o.stores) k)
  where
    go : (t : Bool) → (cond t (success o) (cut_off k)).status ≡ status.Room → ⊥
    go true e = let z : ◌≡◌ {A = ℕ} 0 1 = cc in omega arith
    go false e = let z : ◌≡◌ {A = ℕ} 0 1 = cc in omega arith

module _ {N L : ℕ} {m : Machine} {g : Reference} (up : Up N L m g) where
  abbrev v : View
  v = view_of m.board m.work

  abbrev r : Registers
  r = m.registers

  -- 1
  shaped : good_shape (length m.board) v ≡ true
  shaped = shape_good up.ok.reads.sized m.work

  -- 2
  pub worked : good_work (length m.work) ≡ true
  unfolding good_work good_slots view_of
  worked =
      let s = up.ok.slotted in
      let n = slots_of (length m.work) in
      and_true _ _
      (and_true _ _ (and_true _ _ (eq-eqb (n % ways) 0 s.sets.whole) (le-leb ways n s.sets.some)) (le-leb n most_slots s.sets.most))
      (eq-eqb (length m.work) (work_words n) s.words)

  -- 4
  epochs : proper_epoch v r ≡ true
  unfolding proper_epoch
  epochs =
      let past = up.ok.live.history in
      and_true _ _
      (and_true _ _ (lt-ltb v.control.persisted r.epoch (omega (arith, up.ok.persisted, past.ahead)))
      (le-leb r.epoch last_epoch up.ok.last))
      (le-leb (r.epoch - v.control.persisted) most_ahead (omega (arith, up.ok.persisted, past.window)))

  passes : proper_pass v r ≡ true
  unfolding proper_pass waits
  passes = and_true _ _ (le-leb r.cursor v.slots up.ok.pass.within) (go up.ok.pass.runs)
    where
      go : Runs (bounds_of v r) (sweep_of r) → eqb r.target 0 && eqb r.cursor 0 || waits v r r.target ≡ true
      go (outside t c) = rw (eq-eqb r.target 0 t, eq-eqb r.cursor 0 c)
      go (inside w) =
          rw (lt-ltb v.control.persisted r.target w.ahead, lt-ltb r.target r.epoch w.ended, or-true)

  counts : proper_counts v r ≡ true
  unfolding proper_counts view_of
  counts =
      and_true _ _
      (and_true _ _ (lt-ltb r.buffered buffer_places up.few)
      (le-leb r.dirty (slots_of (length m.work)) (omega (arith, up.counted, dirty_most m.work (slots_of (length m.work))))))
      (le-leb ((control_in m.board).length + r.buffered) (shape_in m.board).entries (omega (arith, up.ok.room, up.ok.ring)))

  proper : proper_registers v r ≡ true
  unfolding proper_registers
  proper = and_true _ _ (and_true _ _ epochs passes) counts

  -- 6, and the count beside it, of the slots that a call visits
  module _ (visited : List ℕ) (within : Ascending v.slots 0 visited) where
    visited_proper : proper_set (bounds_of v r) m.work visited ≡ true
    visited_proper = set_proper up.ok.slotted visited within

    visited_counted : miscounted v r m.work visited ≡ false
    unfolding miscounted view_of
    visited_counted = rw (if_none (eqb r.dirty 0) refl, if_all (eqb r.dirty (slots_of (length m.work))) refl)
      where
        below : Every (λ k. k < slots_of (length m.work)) visited
        below = ascending_below (slots_of (length m.work)) visited within

        if_none : (t : Bool) → eqb r.dirty 0 ≡ t → t && any_of (dirty_at m.work) visited ≡ false
        if_none true e = none_dirty up.ok.slotted visited below (sym up.counted ∙ eqb-true r.dirty 0 e)
        if_none false e = refl

        if_all : (t : Bool) → eqb r.dirty (slots_of (length m.work)) ≡ t → t && not (all_of (dirty_at m.work) visited) ≡ false
        if_all true e = rw (all_dirty up.ok.slotted visited below (sym up.counted ∙ eqb-true r.dirty (slots_of (length m.work)) e))
        if_all false e = refl

  -- load, store and evict visit a set
  module _ (a : ℕ) where
    abbrev places : List ℕ
    places = places_of v.slots a

    within_set : Ascending v.slots 0 places
    within_set = places_ascending v.slots a up.ok.slotted.sets.some

    line_proper : proper_set (bounds_of v r) m.work places ≡ true
    line_proper = visited_proper places within_set

    line_counted : miscounted v r m.work places ≡ false
    line_counted = visited_counted places within_set

  -- the scan "slot c if c < S"
  abbrev at_cursor : List ℕ
  at_cursor = cond (ltb r.cursor v.slots) (r.cursor ∷ []) []

  within_cursor : Ascending v.slots 0 at_cursor
  within_cursor = go (ltb r.cursor v.slots) refl
    where
      go : (t : Bool) → ltb r.cursor v.slots ≡ t → Ascending v.slots 0 (cond t (r.cursor ∷ []) [])
      go true e = (omega arith, ltb-true r.cursor v.slots e, tt)
      go false e = tt

  -- 7
  buffered : good_buffer v m.work r ≡ true
  unfolding good_buffer
  buffered =
      entries_buffer_proper (buffer_in m.work) r.buffered v.shape.lines r.epoch most_ahead _ up.ok.durable.log
      (entries_proper up.ok.live)

  -- 14
  filtered : good_filter m.work r ≡ true
  unfolding good_filter
  filtered = exact_marked (buffer_in m.work) r.buffered up.ok.filter

  -- ---- the answers

  -- of the tests of a line, only that of the address can fail
  line_checked_holds : (a : ℕ) → line_checked m.board m.work r a ≡ cond (leb v.shape.lines a) (Err (unvalued status.Address)) (Ok v)
  unfolding line_checked named_checked running_checked memories_checked
  line_checked_holds a = rw (shaped, worked, proper) (go (leb v.shape.lines a))
    where
      go : (t : Bool) → then (cond t (Err (unvalued status.Address)) (Ok v)) (λ w. line_rows w m.work r a)
          ≡ cond t (Err (unvalued status.Address)) (Ok v)
      go true = refl
      go false = rw (line_proper a, line_counted a, buffered, filtered)

  line_answered : (a k : ℕ) (f : View → picl.Outcome)
      → Among (answers_to (calls.load a)) (answer_of k r (judged (line_checked m.board m.work r a) f)).status
  line_answered a k f = rw (line_checked_holds a) (go (leb v.shape.lines a))
    where
      go : (t : Bool) → Among (answers_to (calls.load a)) (answer_of k r (judged (cond t (Err (unvalued status.Address)) (Ok v)) f)).status
      go true = inr (inl (refusal_answered k r status.Address))
      go false = due_answered k r (f v) (status.Address ∷ [])

  abbrev room_for : (a : ℕ) → View → List Row
  room_for a w = room_rows w m.work r (spot_of m.work w.slots a)

  abbrev crowded : ℕ → Bool
  crowded a = undo_due m.work (spot_of m.work v.slots a) r.epoch && ltb v.shape.entries (v.control.length + r.buffered + 1)

  store_answered : (a value k : ℕ) (f : View → picl.Outcome)
      → Among (answers_to (calls.store a value)) (answer_of k r (judged (store_checked m.board m.work r a) f)).status
  unfolding store_checked
  store_answered a value k f = rw (line_checked_holds a) (go (leb v.shape.lines a) (crowded a) refl)
    where
      go : (t c : Bool) → crowded a ≡ c
          → Among (answers_to (calls.store a value)) (answer_of k r (judged (then (cond t (Err (unvalued status.Address)) (Ok v)) (room_for a)) f)).status
      go true c e = inr (inl (refusal_answered k r status.Address))
      go false true e = rw e (inr (inr (inl (refusal_answered k r status.Room))))
      go false false e = rw e (due_answered k r (f v) (status.Address ∷ status.Room ∷ []))

  commit_answered : (k : ℕ) → Among (answers_to calls.commit) (answer_of k r (verdict_of m.board m.work r calls.commit)).status
  unfolding commit_checked ready_checked running_checked memories_checked
  commit_answered k =
      rw (shaped, worked, proper, buffered, filtered) (go (eqb (r.epoch - v.control.persisted) most_ahead) (eqb r.epoch last_epoch))
    where
      go : (t c : Bool)
          → Among (answers_to calls.commit)
          (answer_of k r (judged (cond t (Err (unvalued status.Waiting)) (cond c (Err (unvalued status.Last)) (Ok v))) (λ w. unstored 0 (committed r) m.work))).status
      go true c = inr (inl (refusal_answered k r status.Waiting))
      go false true = inr (inr (inl (refusal_answered k r status.Last)))
      go false false = inl (unstored_answered k r 0 (committed r) m.work)

  begin_answered : (target k : ℕ) → Among (answers_to (calls.begin target)) (answer_of k r (verdict_of m.board m.work r (calls.begin target))).status
  unfolding begin_checked ready_checked running_checked memories_checked
  begin_answered target k =
      rw (shaped, worked, proper, buffered, filtered) (go (not (eqb r.target 0) || not (waits v r target)))
    where
      go : (t : Bool)
          → Among (answers_to (calls.begin target))
          (answer_of k r (judged (cond t (Err (unvalued status.Target)) (Ok v)) (λ w. unstored 0 (begun r target) m.work))).status
      go true = inr (inl (refusal_answered k r status.Target))
      go false = inl (unstored_answered k r 0 (begun r target) m.work)

  -- outside a pass, with a target that waits
  begin_passed : (target k : ℕ) → r.target ≡ 0 → waits v r target ≡ true
      → (answer_of k r (verdict_of m.board m.work r (calls.begin target))).status ≡ status.Ok
  unfolding begin_checked ready_checked running_checked memories_checked
  begin_passed target k none waiting =
      rw (shaped, worked, proper, buffered, filtered, eq-eqb r.target 0 none, waiting) (unstored_answered k r 0 (begun r target) m.work)

  scan_answered : (k : ℕ) (f : View → picl.Outcome)
      → Among (answers_to calls.scan) (answer_of k r (judged (scan_checked m.board m.work r) f)).status
  unfolding scan_checked running_checked memories_checked
  scan_answered k f =
      rw (shaped, worked, proper, visited_proper at_cursor within_cursor, visited_counted at_cursor within_cursor, buffered, filtered)
      (go (eqb r.epoch (v.control.persisted + 1)))
    where
      go : (t : Bool) → Among (answers_to calls.scan) (answer_of k r (judged (cond t (Err (unvalued status.None)) (Ok v)) f)).status
      go true = inr (inl (refusal_answered k r status.None))
      go false = due_answered k r (f v) (status.None ∷ [])

  -- "8 room" says that the log is full
  store_full : (a k : ℕ) (f : View → picl.Outcome) → (answer_of k r (judged (store_checked m.board m.work r a) f)).status ≡ status.Room
      → v.control.length + r.buffered ≡ L
  unfolding store_checked
  store_full a k f = rw (line_checked_holds a) (go (leb v.shape.lines a) (crowded a) refl)
    where
      go : (t c : Bool) → crowded a ≡ c
          → (answer_of k r (judged (then (cond t (Err (unvalued status.Address)) (Ok v)) (room_for a)) f)).status ≡ status.Room
          → v.control.length + r.buffered ≡ L
      go t true e =
          let due = undo_due m.work (spot_of m.work v.slots a) r.epoch in
          let over : v.shape.entries < v.control.length + r.buffered + 1 =
          ltb-true v.shape.entries (v.control.length + r.buffered + 1)
          (and_right due (ltb v.shape.entries (v.control.length + r.buffered + 1)) e) in
          λ same. omega (arith, up.ok.room, up.ok.ring)
      go true false e = λ same. absurd (refusal_not_room k r same)
      go false false e = rw e (λ same. absurd (due_not_room k r (f v) same))

  tally_answered : (k : ℕ) → (answer_of k r (verdict_of m.board m.work r calls.tally)).status ≡ status.Ok
  unfolding running_checked memories_checked
  tally_answered k = rw (shaped, worked, proper) (unstored_answered k r r.dirty r m.work)

  filter_bits_answered : (k : ℕ) → (answer_of k r (filter_bits_verdict m.work r)).status ≡ status.Ok
  unfolding filter_bits_verdict
  filter_bits_answered k = rw worked (unstored_answered k r (ones_of (buffer_in m.work) filter_words) r m.work)

  pub call_answered : (c : Call) (k : ℕ) → Among (answers_to c) (made m (call c k)).status
  unfolding made
  call_answered (calls.load a) k = line_answered a k (load_outcome m.board m.work r a)
  call_answered (calls.store a w) k = store_answered a w k (store_outcome m.board m.work r a w)
  call_answered (calls.evict a) k = line_answered a k (evict_outcome m.work r a)
  call_answered calls.commit k = commit_answered k
  call_answered (calls.begin target) k = begin_answered target k
  call_answered calls.scan k = scan_answered k (scan_outcome m.board m.work r)
  call_answered calls.tally k = inl (tally_answered k)
  call_answered calls.filter_bits k = inl (filter_bits_answered k)

  pub begin_accepted : (target k : ℕ) → r.target ≡ 0 → persisted_on m.board < target → target < r.epoch
      → (made m (call (calls.begin target) k)).status ≡ status.Ok
  unfolding made waits view_of
  begin_accepted target k none ahead ended =
      begin_passed target k none (and_true _ _ (lt-ltb (persisted_on m.board) target ahead) (lt-ltb target r.epoch ended))

  -- the filter is exactly the bits of the buffered entries
  pub filter_exact : Exact (buffer_in m.work) r.buffered
  filter_exact = up.ok.filter

  pub spans_buffered : (i : ℕ) → i < r.buffered → Spans (buffered_in (buffer_in m.work) i)
  unfolding good_buffer
  spans_buffered i below =
      formed_spans (buffered_in (buffer_in m.work) i)
      (buffered_formed (buffer_in m.work) r.buffered v.shape.lines r.epoch buffered i below)

  pub room_full : (a w k : ℕ) → (made m (call (calls.store a w) k)).status ≡ status.Room
      → (control_in m.board).length + m.registers.buffered ≡ L
  unfolding made view_of
  room_full a w k = store_full a k (store_outcome m.board m.work r a w)

-- not with the current off
pub running_up : {N L : ℕ} (s : Both) → Holds N L s.machine s.reference → Running s → Up N L s.machine s.reference
running_up s (is_up u) runs = u
running_up s (is_down d) runs = absurd (runs (ap (λ (x : Registers). x.epoch) d.registers))
