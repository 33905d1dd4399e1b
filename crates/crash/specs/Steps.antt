-- One call of a list keeps the invariant of a run, whatever it is and wherever it is cut.
use Rattle.std.specs.Prelude.{Ok, Err, ℕ, ◌<◌, ◌≡◌, Bool, cond, List, ◌++◌, leb, length}
use Rattle.std.proofs.Math.Path.{refl}
use Rattle.std.proofs.Common.{sym, arith}
use Rattle.std.proofs.Math.Bool.{true, false}
use Rattle.std.proofs.lemmas.Bool.{false≢true}
use Rattle.board.specs.Stores.{applied}
use Rattle.layout.specs.Memory.{filter_words, buffer_in}
use Rattle.undo.specs.Filter.{ones_of}
use Rattle.board.specs.Verdict.{refused, due}
use Rattle.status.specs.declared.Status.TheVariants as status
use Rattle.slots.specs.Sets.{spot_of}
use Rattle.checks.specs.declared.Registers.{Registers}
use Rattle.checks.specs.Laws.{running, line_running, line_named, store_line, store_room}
use Rattle.checks.specs.Laws.{commit_running, commit_window, commit_early, begin_running, begin_outside, begin_waits, scan_running, scan_aims}
use Rattle.checks.specs.Refusals.{Checked, board_rows, work_rows, register_rows, buffer_rows, address_rows, line_rows, room_rows, epoch_rows, target_rows, scan_rows}
use Rattle.checks.specs.Refusals.{memories_checked, running_checked, ready_checked, named_checked, line_checked, store_checked, commit_checked, begin_checked, scan_checked}
use Rattle.checks.specs.Registers.{committed, begun, scan_target}
use Rattle.checks.specs.View.{view_of, good_work}
use Rattle.picl.specs.Answers.{answer_of, success, cut_off}
use Rattle.picl.specs.Calls as calls
use Rattle.picl.specs.Calls.{Call, verdict_of, judged, unstored, filter_bits_verdict}
use Rattle.picl.specs.Calls.{load_outcome, store_outcome, evict_outcome}
use Rattle.picl.specs.Calls.{scan_outcome}
use Rattle.reference.specs.Machine.{Reference, nothing}
use Rattle.refine.specs.Along.{along_none}
use Rattle.crash.specs.Statement.{call, Machine, answered, made, seen_call, dirty_in}
use Rattle.crash.specs.State.{Holds, is_up, is_down}
use Rattle.crash.specs.Reached.{aim_inside, onward_none}
use Rattle.crash.specs.Fares.{Refuses, tested_refuses, then_refuses, not_ok, not_cut_ok, Fares, refuses, goes, Kept, fares_kept}
use Rattle.crash.specs.Calls.{down_stays, load_goes, load_up_value, store_goes, evict_goes, commit_goes, begin_goes, scan_goes}

-- ---- no check refuses as 0

module _ (board work : List ℕ) (r : Registers) where
  running_refuses : Refuses (running_checked board work r)
  unfolding running_checked memories_checked
  running_refuses =
      then_refuses (memories_checked board work) (λ v. register_rows v r)
      (tested_refuses (board_rows (length board) (view_of board work) ++ work_rows (length work)) (view_of board work) refl)
      (λ v. refl)

  ready_refuses : Refuses (ready_checked board work r)
  unfolding ready_checked
  ready_refuses = then_refuses (running_checked board work r) (λ v. buffer_rows v work r) running_refuses (λ v. refl)

  line_refuses : (a : ℕ) → Refuses (line_checked board work r a)
  unfolding line_checked named_checked
  line_refuses a =
      then_refuses (named_checked board work r a) (λ v. line_rows v work r a)
      (then_refuses (running_checked board work r) (λ v. address_rows v a) running_refuses (λ v. refl))
      (λ v. refl)

  store_refuses : (a : ℕ) → Refuses (store_checked board work r a)
  unfolding store_checked
  store_refuses a = then_refuses (line_checked board work r a) (λ v. room_rows v work r (spot_of work v.slots a)) (line_refuses a) (λ v. refl)

  commit_refuses : Refuses (commit_checked board work r)
  unfolding commit_checked
  commit_refuses = then_refuses (ready_checked board work r) (λ v. epoch_rows v r) ready_refuses (λ v. refl)

  begin_refuses : (target : ℕ) → Refuses (begin_checked board work r target)
  unfolding begin_checked
  begin_refuses target = then_refuses (ready_checked board work r) (λ v. target_rows v r target) ready_refuses (λ v. refl)

  scan_refuses : Refuses (scan_checked board work r)
  unfolding scan_checked
  scan_refuses = then_refuses (running_checked board work r) (λ v. scan_rows v work r) running_refuses (λ v. refl)

-- ---- each call

module _ {N L : ℕ} {m : Machine} {g : Reference} (h : Holds N L m g) where
  abbrev board : List ℕ
  board = m.board

  abbrev work : List ℕ
  work = m.work

  abbrev r : Registers
  r = m.registers

  load_fares : (a : ℕ) → Fares N L m g (calls.load a) (verdict_of board work r (calls.load a))
  load_fares a = go (line_checked board work r a) refl h
    where
      go : (x : Checked) → line_checked board work r a ≡ x → Holds N L m g
          → Fares N L m g (calls.load a) (judged x (load_outcome board work r a))
      go (Err why) e h = refuses why.status why.value (line_refuses board work r a why (sym e))
      go (Ok v) e (is_down d) = absurd (down_stays d v (line_running board work r a v (sym e)))
      go (Ok v) e (is_up u) =
          let same = (line_running board work r a v (sym e)).shaped.is in
          rw same (load_goes u a (rw same at (line_named board work r a v (sym e))))

  evict_fares : (a : ℕ) → Fares N L m g (calls.evict a) (verdict_of board work r (calls.evict a))
  evict_fares a = go (line_checked board work r a) refl h
    where
      go : (x : Checked) → line_checked board work r a ≡ x → Holds N L m g → Fares N L m g (calls.evict a) (judged x (evict_outcome work r a))
      go (Err why) e h = refuses why.status why.value (line_refuses board work r a why (sym e))
      go (Ok v) e (is_down d) = absurd (down_stays d v (line_running board work r a v (sym e)))
      go (Ok v) e (is_up u) =
          let same = (line_running board work r a v (sym e)).shaped.is in
          rw same (evict_goes u a (rw same at (line_named board work r a v (sym e))))

  store_fares : (a value : ℕ) → Fares N L m g (calls.store a value) (verdict_of board work r (calls.store a value))
  store_fares a value = go (store_checked board work r a) refl h
    where
      go : (x : Checked) → store_checked board work r a ≡ x → Holds N L m g
          → Fares N L m g (calls.store a value) (judged x (store_outcome board work r a value))
      go (Err why) e h = refuses why.status why.value (store_refuses board work r a why (sym e))
      go (Ok v) e (is_down d) = absurd (down_stays d v (line_running board work r a v (store_line board work r a v (sym e))))
      go (Ok v) e (is_up u) =
          let line = store_line board work r a v (sym e) in
          let same = (line_running board work r a v line).shaped.is in
          rw same (store_goes u a (rw same at (line_named board work r a v line)) value (rw same at (store_room board work r a v (sym e))))

  commit_fares : Fares N L m g calls.commit (verdict_of board work r calls.commit)
  commit_fares = go (commit_checked board work r) refl h
    where
      go : (x : Checked) → commit_checked board work r ≡ x → Holds N L m g → Fares N L m g calls.commit (judged x (λ v. unstored 0 (committed r) work))
      go (Err why) e h = refuses why.status why.value (commit_refuses board work r why (sym e))
      go (Ok v) e (is_down d) = absurd (down_stays d v (commit_running board work r v (sym e)))
      go (Ok v) e (is_up u) =
          let same = (commit_running board work r v (sym e)).shaped.is in
          commit_goes u (commit_early board work r v (sym e)) (rw same at (commit_window board work r v (sym e)))

  begin_fares : (target : ℕ) → Fares N L m g (calls.begin target) (verdict_of board work r (calls.begin target))
  begin_fares target = go (begin_checked board work r target) refl h
    where
      go : (x : Checked) → begin_checked board work r target ≡ x → Holds N L m g
          → Fares N L m g (calls.begin target) (judged x (λ v. unstored 0 (begun r target) work))
      go (Err why) e h = refuses why.status why.value (begin_refuses board work r target why (sym e))
      go (Ok v) e (is_down d) = absurd (down_stays d v (begin_running board work r target v (sym e)))
      go (Ok v) e (is_up u) =
          let same = (begin_running board work r target v (sym e)).shaped.is in
          begin_goes u target (begin_outside board work r target v (sym e)) (rw same at (begin_waits board work r target v (sym e)))

  scan_fares : Fares N L m g calls.scan (verdict_of board work r calls.scan)
  scan_fares = go (scan_checked board work r) refl h
    where
      go : (x : Checked) → scan_checked board work r ≡ x → Holds N L m g → Fares N L m g calls.scan (judged x (scan_outcome board work r))
      go (Err why) e h = refuses why.status why.value (scan_refuses board work r why (sym e))
      go (Ok v) e (is_down d) = absurd (down_stays d v (scan_running board work r v (sym e)))
      go (Ok v) e (is_up u) =
          let same = (scan_running board work r v (sym e)).shaped.is in
          rw same (scan_goes u (rw same at (scan_aims board work r v (sym e))))

  -- a question leaves all as it is, with the current on or off
  asked_goes : (c : Call) (value : ℕ) → seen_call c value ≡ nothing → Fares N L m g c (due (unstored value r work))
  unfolding applied
  asked_goes c value unseen = goes (unstored value r work) (along_none N L board g) (rw unseen h) refl (rw unseen (onward_none _))

  tally_fares : Fares N L m g calls.tally (verdict_of board work r calls.tally)
  tally_fares = go (running_checked board work r) refl
    where
      go : (x : Checked) → running_checked board work r ≡ x → Fares N L m g calls.tally (judged x (λ v. unstored r.dirty r work))
      go (Err why) e = refuses why.status why.value (running_refuses board work r why (sym e))
      go (Ok v) e = asked_goes calls.tally r.dirty refl

  filter_bits_fares : Fares N L m g calls.filter_bits (filter_bits_verdict work r)
  unfolding filter_bits_verdict
  filter_bits_fares = go (good_work (length work))
    where
      go : (t : Bool) → Fares N L m g calls.filter_bits (cond t (due (unstored (ones_of (buffer_in work) filter_words) r work)) (refused status.Work 0))
      go true = asked_goes calls.filter_bits (ones_of (buffer_in work) filter_words) refl
      go false = refuses status.Work 0 refl

  call_fares : (c : Call) → Fares N L m g c (verdict_of board work r c)
  call_fares (calls.load a) = load_fares a
  call_fares (calls.store a value) = store_fares a value
  call_fares (calls.evict a) = evict_fares a
  call_fares calls.commit = commit_fares
  call_fares (calls.begin target) = begin_fares target
  call_fares calls.scan = scan_fares
  call_fares calls.tally = tally_fares
  call_fares calls.filter_bits = filter_bits_fares

  pub call_kept : (c : Call) (k : ℕ) → Kept N L m g c k (made m (call c k))
  unfolding made
  call_kept c k = fares_kept h (call_fares c) k

  -- an accepted tally gives the number of dirty slots
  pub tally_value : (k : ℕ) → (made m (call calls.tally k)).status ≡ status.Ok → (made m (call calls.tally k)).value ≡ dirty_in work
  unfolding made answer_of
  tally_value k = go (running_checked board work r) refl h
    where
      told : (t : Bool) → r.dirty ≡ dirty_in work → (cond t (success (unstored r.dirty r work)) (cut_off k)).status ≡ status.Ok
          → (cond t (success (unstored r.dirty r work)) (cut_off k)).value ≡ dirty_in work
      told true counted ok = counted
      told false counted ok = absurd (not_cut_ok (sym ok))

      go : (x : Checked) → running_checked board work r ≡ x → Holds N L m g
          → (answered k r board work (judged x (λ v. unstored r.dirty r work))).status ≡ status.Ok
          → (answered k r board work (judged x (λ v. unstored r.dirty r work))).value ≡ dirty_in work
      go (Err why) e h = λ ok. absurd (false≢true (sym (rw ok at (not_ok why.status (running_refuses board work r why (sym e))))))
      go (Ok v) e (is_down d) = absurd (down_stays d v (running board work r v (sym e)))
      go (Ok v) e (is_up u) = told (leb 0 k) u.counted

  -- after an accepted begin call the scan aims at its target
  pub begin_aims : (target k persisted : ℕ) → (made m (call (calls.begin target) k)).status ≡ status.Ok
      → scan_target (made m (call (calls.begin target) k)).left.registers persisted ≡ target
  unfolding made answer_of
  begin_aims target k persisted = go (begin_checked board work r target) refl
    where
      told : (t : Bool) → 0 < target → (cond t (success (unstored 0 (begun r target) work)) (cut_off k)).status ≡ status.Ok
          → scan_target (cond t (success (unstored 0 (begun r target) work)) (cut_off k)).registers persisted ≡ target
      told true some ok = aim_inside (begun r target) persisted some
      told false some ok = absurd (not_cut_ok (sym ok))

      go : (x : Checked) → begin_checked board work r target ≡ x
          → (answered k r board work (judged x (λ v. unstored 0 (begun r target) work))).status ≡ status.Ok
          → scan_target (answered k r board work (judged x (λ v. unstored 0 (begun r target) work))).left.registers persisted ≡ target
      go (Err why) e = λ ok. absurd (false≢true (sym (rw ok at (not_ok why.status (begin_refuses board work r target why (sym e))))))
      go (Ok v) e = told (leb 0 k) (omega (arith, (begin_waits board work r target v (sym e)).ahead))

  -- an accepted load gives the uncached machine's line
  pub load_value : (a k : ℕ) → (made m (call (calls.load a) k)).status ≡ status.Ok → (made m (call (calls.load a) k)).value ≡ g.lines a
  unfolding made answer_of
  load_value a k = go (line_checked board work r a) refl h
    where
      go : (x : Checked) → line_checked board work r a ≡ x → Holds N L m g
          → (answered k r board work (judged x (load_outcome board work r a))).status ≡ status.Ok
          → (answered k r board work (judged x (load_outcome board work r a))).value ≡ g.lines a
      go (Err why) e h = λ ok. absurd (false≢true (sym (rw ok at (not_ok why.status (line_refuses board work r a why (sym e))))))
      go (Ok v) e (is_down d) = absurd (down_stays d v (line_running board work r a v (sym e)))
      go (Ok v) e (is_up u) =
          let same = (line_running board work r a v (sym e)).shaped.is in
          rw same (load_up_value u a (rw same at (line_named board work r a v (sym e))) k)
