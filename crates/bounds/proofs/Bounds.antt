-- "No call but format and power-up makes more than 66 board stores; power-up makes at most length + 1." On every input.
use Rattle.std.specs.Prelude.{Ok, Err, ℕ, ◌+◌, ◌≤◌, ◌≡◌, refl, Bool, true, false, cond, List, ltb, leb}
use Rattle.std.proofs.Common.{ap, arith, leb-false}
use Rattle.std.proofs.Math.ListN.{length}
use Rattle.layout.specs.Limits.{most_stores}
use Rattle.layout.specs.Memory.{control_in}
use Rattle.status.specs.declared.Status.{Status}
use Rattle.slots.specs.Sets.{spot_of}
use Rattle.checks.specs.declared.Registers.{Registers}
use Rattle.checks.specs.declared.View.{View}
use Rattle.checks.specs.Laws.{line_running, store_line, scan_running, entries_shaped}
use Rattle.checks.specs.Refusals.{Checked, power_up_checked, running_checked, line_checked, store_checked, commit_checked, begin_checked, scan_checked}
use Rattle.checks.specs.Registers.{committed, begun, all_zero, scan_target}
use Rattle.checks.specs.View.{view_of, good_work, undo_of}
use Rattle.picl.specs.Answers.{Outcome, success, cut_off, answer_of}
use Rattle.board.specs.Verdict.{refused, due}
use Rattle.picl.specs.Calls as calls
use Rattle.picl.specs.Calls.{Call, verdict_of, unstored, filter_bits_verdict, judged, load_at, load_outcome, store_at, store_outcome}
use Rattle.picl.specs.Calls.{evict_at, evict_outcome, scan_at, scan_outcome}
use Rattle.picl.specs.Calls.{power_up_outcome, power_up_verdict}
use Rattle.base.specs.Cases.{either}
use Rattle.bounds.proofs.Costs.{owed_most, loading_cost, evicting_cost, visiting_cost}
use Rattle.bounds.proofs.Costs.{storing_most, persisting_most, recover_most}
use Rattle.bounds.specs.Bounds.{Bounded}

refused_bounded : (n : ℕ) (why : Status) (value : ℕ) → Bounded n (refused why value)
unfolding answer_of
refused_bounded n why value =
    record {
      owes = λ o e. let z : ◌≡◌ {A = ℕ} 0 1 = cc in absurd (omega arith);
      tells = λ allowance given. omega arith;
    }

due_bounded : (n : ℕ) (o : Outcome) → length o.stores ≤ n → Bounded n (due o)
unfolding answer_of
due_bounded n o h =
    record {
      owes = λ p e. let same : p ≡ o = cc in rw same h;
      tells = λ allowance given. told allowance (leb (length o.stores) allowance) refl;
    }
  where
    told : (allowance : ℕ) (t : Bool) → leb (length o.stores) allowance ≡ t → (cond t (success o) (cut_off allowance)).stores ≤ n
    told allowance true e = h
    told allowance false e = omega (arith, leb-false (length o.stores) allowance e)

judged_bounded : (n : ℕ) (k : Checked) (f : View → Outcome) → ((v : View) → Ok v ≡ k → length (f v).stores ≤ n)
    → Bounded n (judged k f)
judged_bounded n (Err why) f h = refused_bounded n why.status why.value
judged_bounded n (Ok v) f h = due_bounded n (f v) (h v refl)

module _ (board work : List ℕ) (r : Registers) where
  load_bounded : (address : ℕ) → Bounded most_stores (verdict_of board work r (calls.load address))
  unfolding load_outcome load_at
  load_bounded address =
      judged_bounded most_stores (line_checked board work r address) (load_outcome board work r address)
      (λ v p.
      let most = owed_most r.buffered (line_running board work r address v p).proper.buffered in
      omega (arith, most, loading_cost board (undo_of v r) work address (spot_of work v.slots address)))

  store_bounded : (address value : ℕ) → Bounded most_stores (verdict_of board work r (calls.store address value))
  unfolding store_outcome store_at
  store_bounded address value =
      judged_bounded most_stores (store_checked board work r address) (store_outcome board work r address value)
      (λ v p.
      let most = owed_most r.buffered (line_running board work r address v (store_line board work r address v p)).proper.buffered in
      omega (arith, most, storing_most board (undo_of v r) work address (spot_of work v.slots address) r.epoch value))

  evict_bounded : (address : ℕ) → Bounded most_stores (verdict_of board work r (calls.evict address))
  unfolding evict_outcome evict_at
  evict_bounded address =
      judged_bounded most_stores (line_checked board work r address) (evict_outcome work r address)
      (λ v p.
      let most = owed_most r.buffered (line_running board work r address v p).proper.buffered in
      omega (arith, most, evicting_cost (undo_of v r) work (spot_of work v.slots address)))

  commit_bounded : Bounded most_stores (verdict_of board work r calls.commit)
  commit_bounded = judged_bounded most_stores (commit_checked board work r) (λ v. unstored 0 (committed r) work) (λ v p. omega arith)

  begin_bounded : (target : ℕ) → Bounded most_stores (verdict_of board work r (calls.begin target))
  begin_bounded target =
      judged_bounded most_stores (begin_checked board work r target) (λ v. unstored 0 (begun r target) work) (λ v p. omega arith)

  scan_bounded : Bounded most_stores (verdict_of board work r calls.scan)
  unfolding scan_outcome scan_at
  scan_bounded =
      judged_bounded most_stores (scan_checked board work r) (scan_outcome board work r)
      (λ v p.
      let most = owed_most r.buffered (scan_running board work r v p).proper.buffered in
      let target = scan_target r v.control.persisted in
      either (λ (o : Outcome). length o.stores ≤ most_stores) (ltb r.cursor v.slots)
      (omega (arith, most, visiting_cost (undo_of v r) work r.cursor target))
      (omega (arith, most, persisting_most board (undo_of v r) work target)))

  tally_bounded : Bounded most_stores (verdict_of board work r calls.tally)
  tally_bounded = judged_bounded most_stores (running_checked board work r) (λ v. unstored r.dirty r work) (λ v p. omega arith)

  filter_bits_bounded : Bounded most_stores (filter_bits_verdict work r)
  unfolding filter_bits_verdict
  filter_bits_bounded =
      either (Bounded most_stores) (good_work (length work)) (due_bounded most_stores _ (omega arith)) (refused_bounded most_stores _ 0)

  -- "No call but format and power-up"
  pub call_bounded : (c : Call) → Bounded most_stores (verdict_of board work r c)
  call_bounded (calls.load address) = load_bounded address
  call_bounded (calls.store address value) = store_bounded address value
  call_bounded (calls.evict address) = evict_bounded address
  call_bounded calls.commit = commit_bounded
  call_bounded (calls.begin target) = begin_bounded target
  call_bounded calls.scan = scan_bounded
  call_bounded calls.tally = tally_bounded
  call_bounded calls.filter_bits = filter_bits_bounded

pub power_up_bounded : (board work : List ℕ) → Bounded ((control_in board).length + 1) (power_up_verdict board work)
unfolding power_up_verdict power_up_outcome view_of
power_up_bounded board work =
    judged_bounded _ (power_up_checked board work) (power_up_outcome board work)
    (λ v p.
    let same : v.control.length ≡ (control_in board).length = ap (λ (x : View). x.control.length) (entries_shaped board work v p).is in
    omega (arith, recover_most board (undo_of v all_zero)))
