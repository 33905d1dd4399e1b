-- A power-up keeps the invariant of a run from any state, and never answers 1 or 3: each entry of the log that it finds is proper.
use Rattle.std.specs.Prelude.{Ok, Err, ℕ, ◌+◌, ◌≤◌, ◌<◌, Bool, not, cond, List, eqb, replicate}
use Rattle.std.proofs.Math.Path.{◌≡◌, refl, ap}
use Rattle.std.proofs.Common.{sym, ◌∙◌, subst, arith}
use Rattle.std.proofs.Math.Bool.{true, false}
use Rattle.std.proofs.lemmas.Bool.{false≢true}
use borrow.Author.Tests.{leb-true, leb-false, lt-ltb, le-ltb, le-leb, eq-eqb, ne_eqb}
use Rattle.std.proofs.Math.Dec.{leb}
use Rattle.std.proofs.Math.ListN.{length, get_or}
use Rattle.std.proofs.Math.Seq.{take_all}
use Rattle.base.specs.Tests.{and_true}
use Rattle.layout.specs.declared.Control.{Control}
use Rattle.layout.specs.declared.Shape.{Shape}
use Rattle.layout.specs.Limits.{last_epoch, most_lines, most_entries, most_ahead}
use Rattle.layout.specs.Memory.{log_at, lines_at, board_words, control_in}
use Rattle.board.specs.Stores.{Store, applied}
use Rattle.status.specs.declared.Status.{Status}
use Rattle.status.specs.declared.Status.TheVariants as status
use Rattle.undo.specs.declared.LogState.{LogState}
use Rattle.undo.specs.Recovery.{proper_at, first_improper}
use Rattle.undo.specs.Laws.{formed_spans, proper_formed}
use Rattle.undo.specs.Log.{entry_in, log_in, recover_stores}
use Rattle.checks.specs.Promises.{Shaped}
use Rattle.checks.specs.Laws.{memories_shaped}
use Rattle.checks.specs.declared.View.{View}
use Rattle.checks.specs.Refusals.{unvalued, then, entry_rows, memories_checked, power_up_checked}
use Rattle.checks.specs.Registers as registers
use Rattle.checks.specs.View.{view_of, good_sizes, good_control, good_shape, good_work, undo_of}
use Rattle.board.specs.Verdict.{refused, due, board_after, work_after}
use Rattle.picl.specs.Answers.{Outcome, Verdict, answer_of}
use Rattle.picl.specs.Calls.{judged, power_up_outcome, power_up_verdict}
use Rattle.history.specs.Machine.{Durable}
use Rattle.reference.specs.Machine.{Reference, restarts, does}
use Rattle.history.proofs.Restore.{power_up_lines}
use Rattle.bounds.proofs.Costs.{recover_most}
use Rattle.durable.specs.Proper.{reads_passes, reads_proper}
use Rattle.durable.specs.View.{Sized, undo_with}
use Rattle.volatile.specs.Dirty.{dirty_none}
use Rattle.refine.specs.State.{Off}
use Rattle.refine.specs.Restart.{recovery_along, recovery_reads, restart_ok}
use Rattle.crash.specs.Statement.{power_up, Machine, Result, answered, made, fed, log_on, Spans}
use Rattle.crash.specs.Fares.{NoneDirty, cut_none, not_cut_ok}
use Rattle.crash.specs.State.{Up, emptied_zeros, Holds, is_up, is_down, up_of, holds_off, holds_ended}

-- ---- the tests

pub differ : ◌≡◌ {A = ℕ} 0 1 → ⊥
differ e = omega arith

not_last : (n : ℕ) → n < last_epoch → not (eqb n last_epoch) ≡ true
not_last n h = rw (ne_eqb n last_epoch (omega arith))

pub shape_good : {N L : ℕ} {board : List ℕ} → Sized N L board → (work : List ℕ) → good_shape (length board) (view_of board work) ≡ true
unfolding good_shape good_sizes good_control view_of
shape_good {N} {L} {board} s work =
    let c = s.control in
    rw s.shape
    (and_true _ _
    (and_true _ _ (and_true _ _ (le-leb log_at (length board) (omega (arith, s.words))) refl)
    (and_true _ _
    (and_true _ _
    (and_true _ _ (and_true _ _ (le-leb 1 N s.sizes.lines_some) (le-leb N most_lines s.sizes.lines_most)) (le-leb 1 L s.sizes.entries_some))
    (le-leb L most_entries s.sizes.entries_most))
    (eq-eqb (length board) (board_words N L) s.words)))
    (and_true _ _
    (and_true _ _ (not_last (control_in board).persisted c.persisted) (lt-ltb (control_in board).start L c.start))
    (le-leb (control_in board).length L c.length)))

-- each entry of the log is proper
pub log_proper_of : {N L : ℕ} {board : List ℕ} {g : Reference} → Off N L board g → (i : ℕ) → i < (control_in board).length
    → proper_at (log_in board (log_on L board)) N i ≡ true
log_proper_of {N = N} {L = L} {board = board} off i h =
    let numbers : log_on L board ≡ undo_with off.control L = ap (λ (c : Control). undo_with c L) off.reads.control in
    subst (λ (u : LogState). proper_at (log_in board u) N i ≡ true) (sym numbers)
    (reads_proper (undo_with off.control L) off.reads refl most_ahead off.safe.proper i (rw off.reads.control at h))

pub log_spans_of : {N L : ℕ} {board : List ℕ} {g : Reference} → Off N L board g → (i : ℕ) → i < (control_in board).length
    → Spans (entry_in board (log_on L board) i)
log_spans_of {N = N} {L = L} {board = board} off i h =
    formed_spans (entry_in board (log_on L board) i) (proper_formed (log_in board (log_on L board)) N i (log_proper_of off i h))

module _ {N L : ℕ} {board : List ℕ} {g : Reference} (off : Off N L board g) (lent : List ℕ) where
  -- the log's numbers that power-up reads
  numbers : undo_of (view_of board lent) registers.all_zero ≡ undo_with off.control L
  unfolding view_of
  numbers =
      let entries = ap (λ (s : Shape). s.entries) off.reads.sized.shape in
      λ i. record { control = off.reads.control i; entries = entries i; buffered = 0 }

  lines : (view_of board lent).shape.lines ≡ N
  unfolding view_of
  lines = ap (λ (s : Shape). s.lines) off.reads.sized.shape

  length_same : (view_of board lent).control.length ≡ off.control.length
  unfolding view_of
  length_same = ap (λ (c : Control). c.length) off.reads.control

  persisted_same : (view_of board lent).control.persisted ≡ off.control.persisted
  unfolding view_of
  persisted_same = ap (λ (c : Control). c.persisted) off.reads.control

  -- every entry of the log is proper
  all_proper : first_improper (log_in board (undo_of (view_of board lent) registers.all_zero)) (view_of board lent).shape.lines ≡ (view_of board lent).control.length
  all_proper =
      ap (λ (u : LogState). first_improper (log_in board u) (view_of board lent).shape.lines) numbers ∙ rw (lines, length_same)
      (reads_passes (undo_with off.control L) off.reads refl most_ahead off.safe.proper)

  abbrev stores : List Store
  stores = recover_stores board (undo_with off.control L)

  abbrev recovery : Outcome
  recovery =
      record { value = 0; registers = registers.restarted off.control.persisted; work = replicate (length lent) 0; stores = stores }

  recovers : power_up_outcome board lent (view_of board lent) ≡ recovery
  unfolding power_up_outcome
  recovers = rw (numbers, persisted_same)

  -- so it is refused as work or not at all
  verdict_is : power_up_verdict board lent ≡ cond (good_work (length lent)) (due recovery) (refused status.Work 0)
  unfolding power_up_verdict power_up_checked memories_checked
  verdict_is = rw (shape_good off.reads.sized lent) (go (good_work (length lent)))
    where
      v : View
      v = view_of board lent

      go : (t : Bool) → judged (then (cond (not t) (Err (unvalued status.Work)) (Ok v)) (λ w. entry_rows board w)) (power_up_outcome board lent)
          ≡ cond t (due recovery) (refused status.Work 0)
      go true = rw (all_proper, le-ltb v.control.length v.control.length (omega arith), recovers)
      go false = refl

  module _ (good : good_work (length lent) ≡ true) where
    shaped : Shaped board lent (view_of board lent)
    unfolding memories_checked
    shaped = memories_shaped board lent (view_of board lent) (sym (rw (shape_good off.reads.sized lent, good)))

    up_again : Up N L (record { board = applied board stores; work = replicate (length lent) 0; registers = recovery.registers }) (restarts g)
    up_again =
        rw shaped.work_words_holds
        (up_of (restart_ok off (view_of board lent).slots shaped.sets) (registers.restarted off.control.persisted) refl refl
        refl (omega arith) (sym (dirty_none (view_of board lent).slots)))

pub record PoweredUp (N L : ℕ) (g : Reference) (lent : List ℕ) (k : ℕ) (x : Result) : Type 0 where
  pub holds : Holds N L x.left (does g (fed (power_up lent k) x))
  pub cut : x.status ≡ status.Cut → NoneDirty x.left

module _ {N L : ℕ} {m : Machine} {g : Reference} (h : Holds N L m g) (lent : List ℕ) (allowance : ℕ) where
  abbrev off : Off N L m.board g
  off = holds_off h

  abbrev ss : List Store
  ss = stores off lent

  abbrev answering : Verdict → Result
  answering v = answered allowance registers.all_zero m.board lent v

  refused_kept : good_work (length lent) ≡ false → PoweredUp N L g lent allowance (answering (refused status.Work 0))
  unfolding answer_of board_after work_after
  refused_kept bad =
      record {
        holds =
            is_down
            (record { off = off; registers = refl; emptied = λ good. absurd (false≢true (sym bad ∙ good)); ended = holds_ended h });
        cut = λ same. let z : ◌≡◌ {A = ℕ} 0 1 = cc in absurd (differ z);
      }

  due_kept : good_work (length lent) ≡ true → PoweredUp N L g lent allowance (answering (due (recovery off lent)))
  unfolding answer_of board_after work_after
  due_kept good = go (leb (length ss) allowance) refl
    where
      go : (t : Bool) → leb (length ss) allowance ≡ t → PoweredUp N L g lent allowance (answering (due (recovery off lent)))
      go true e =
          record {
            holds = rw (e, take_all allowance ss (leb-true _ _ e)) (is_up (up_again off lent good));
            cut = rw e (λ same. absurd (not_cut_ok same));
          }
      go false e =
          record {
            holds =
                rw e
                (is_down
                (record {
                  off = recovery_along off allowance (leb-false _ _ e);
                  registers = refl;
                  emptied = emptied_zeros (length lent);
                  ended = holds_ended h;
                }));
            cut = rw e (λ same. (refl, cut_none (length lent)));
          }

  pub power_up_kept : PoweredUp N L g lent allowance (made m (power_up lent allowance))
  unfolding made
  power_up_kept = rw (verdict_is off lent) (go (good_work (length lent)) refl)
    where
      go : (t : Bool) → good_work (length lent) ≡ t
          → PoweredUp N L g lent allowance (answering (cond t (due (recovery off lent)) (refused status.Work 0)))
      go true e = due_kept e
      go false e = refused_kept e

  -- ---- what an accepted power-up leaves

  recovered_lines : (a : ℕ) → get_or (applied m.board ss) (lines_at L + a) 0 ≡ g.copies g.persisted a
  recovered_lines a = ap (λ (d : Durable). d.memory a) (recovery_reads off).durable ∙ power_up_lines off.safe a

  -- ok: the stores were all made
  pub power_up_lines_of : (made m (power_up lent allowance)).status ≡ status.Ok → (a : ℕ)
      → get_or (made m (power_up lent allowance)).left.board (lines_at L + a) 0 ≡ g.copies g.persisted a
  unfolding made answer_of board_after
  power_up_lines_of = rw (verdict_is off lent) (go (good_work (length lent)) (leb (length ss) allowance) refl)
    where
      go : (t u : Bool) → leb (length ss) allowance ≡ u
          → (answering (cond t (due (recovery off lent)) (refused status.Work 0))).status ≡ status.Ok → (a : ℕ)
          → get_or (answering (cond t (due (recovery off lent)) (refused status.Work 0))).left.board (lines_at L + a) 0 ≡ g.copies g.persisted a
      go true true e = λ ok a. rw (take_all allowance ss (leb-true _ _ e)) (recovered_lines a)
      go true false e = rw e (λ ok a. let z : ◌≡◌ {A = ℕ} 0 1 = cc in absurd (omega arith))
      go false u e = λ ok a. let z : ◌≡◌ {A = ℕ} 0 1 = cc in absurd (omega arith)

  not_refused : (s : Status) → (status.Work ≡ s → ⊥) → (status.Ok ≡ s → ⊥) → (status.Cut ≡ s → ⊥)
      → (made m (power_up lent allowance)).status ≡ s → ⊥
  unfolding made answer_of
  not_refused s work ok cut = rw (verdict_is off lent) (go (good_work (length lent)) (leb (length ss) allowance) refl)
    where
      go : (t u : Bool) → leb (length ss) allowance ≡ u → (answering (cond t (due (recovery off lent)) (refused status.Work 0))).status ≡ s → ⊥
      go true true e = rw e ok
      go true false e = rw e cut
      go false u e = work

  pub power_up_shape : (made m (power_up lent allowance)).status ≡ status.Shape → ⊥
  power_up_shape = not_refused status.Shape (λ e. differ cc) (λ e. differ cc) (λ e. differ cc)

  pub power_up_entry : (made m (power_up lent allowance)).status ≡ status.Entry → ⊥
  power_up_entry = not_refused status.Entry (λ e. differ cc) (λ e. differ cc) (λ e. differ cc)

  -- a proper work memory and an allowance of length + 1 are enough
  pub power_up_ok : good_work (length lent) ≡ true → (control_in m.board).length + 1 ≤ allowance
      → (made m (power_up lent allowance)).status ≡ status.Ok
  unfolding made answer_of
  power_up_ok work enough =
      let most : length ss ≤ allowance =
      omega (arith, recover_most m.board (undo_with off.control L), ap (λ (c : Control). c.length) off.reads.control) in
      rw (verdict_is off lent, work, le-leb (length ss) allowance most)
