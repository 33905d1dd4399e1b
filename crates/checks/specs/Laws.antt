-- What a passed check tells: of the check that it stands behind, of each of its rows by the row's status, and so of the view and the
-- registers.
use Rattle.std.specs.Prelude.{Ok, Err, ◌≡◌, ℕ, ◌+◌, ◌-◌, ◌<◌, ◌≤◌, Bool, true, false, cond, not, ◌&&◌, ◌||◌, List, [], ◌∷◌, ◌++◌, length, ◌==◌, ◌≢◌, nat_eq, nat_le, nat_lt, slice_index, refl}
use Rattle.std.proofs.Common.{sym, ◌∙◌, arith}
use Rattle.std.proofs.lemmas.Bool.{false≢true}
use borrow.Author.Tests.{eqb-true, eqb-false, leb-false, ltb-false, lt-ltb, not-true, not-false}
use Rattle.base.specs.Several.{all_of, any_of, none_all}
use Rattle.base.specs.Tests.{held, and_right}
use Rattle.layout.specs.Limits.{last_epoch, most_ahead, most_slots}
use Rattle.layout.specs.Laws.{control_laws}
use Rattle.layout.specs.Memory.{slots_of, control_at, board_words, buffer_words, work_words}
use Rattle.layout.specs.Sizes.{Sizes}
use Rattle.layout.specs.Words.{ControlFits}
use Rattle.ranges.specs.Ranges.{Waits}
use Rattle.status.specs.declared.Status.{Status}
use Rattle.status.specs.declared.Status.TheVariants as status
use Rattle.status.specs.Numbers.{number_of}
use Rattle.slots.specs.Laws.{spot_all}
use Rattle.slots.specs.Sets.{places_of, proper_set, spot_of}
use Rattle.slots.specs.Slots.{proper_at, dirty_at, undo_due}
use Rattle.checks.specs.declared.Refusal.{Refusal}
use Rattle.checks.specs.declared.Registers.{Registers}
use Rattle.checks.specs.declared.View.{View}
use Rattle.checks.specs.View.{view_of, bounds_of, undo_of, good_sizes, good_control, good_shape, good_slots, good_work, proper_epoch, proper_counts, proper_pass, proper_registers, waits, miscounted}
use Rattle.checks.specs.Refusals.{Checked, Row, tested, then, board_rows, work_rows, entry_rows, register_rows, buffer_rows, address_rows, line_rows, room_rows, epoch_rows, target_rows, scan_rows}
use Rattle.checks.specs.Refusals.{board_checked, memories_checked, power_up_checked, running_checked, ready_checked, named_checked, line_checked, store_checked, commit_checked, begin_checked, scan_checked}
use Rattle.checks.specs.Registers.{all_zero, scan_target}
use Rattle.undo.specs.Log.{log_in}
use Rattle.undo.specs.Recovery.{first_improper}
use Rattle.checks.specs.Promises.{GoodBoard, Opened, Shaped, Proper, Running, Countable}

pub differ : ◌≡◌ {A = ℕ} 0 1 → ⊥
differ e = omega arith

-- ---- rows

-- the view that passes is the one that was tested
pub passed_view : (xs : List Row) (v w : View) → Ok w ≡ tested xs v → w ≡ v
passed_view [] v w e = cc
passed_view (x ∷ xs) v w e = go x.holds (passed_view xs v w) e
  where
    go : (t : Bool) → (Ok w ≡ tested xs v → w ≡ v) → Ok w ≡ cond t (Err x.refuses) (tested xs v) → w ≡ v
    go true rest e = absurd (differ cc)
    go false rest e = rest e

-- rows in two parts
pub refused_first : (xs ys : List Row) (v : View) (why : Refusal) → Err why ≡ tested xs v → Err why ≡ tested (xs ++ ys) v
refused_first [] ys v why e = absurd (differ cc)
refused_first (x ∷ xs) ys v why e = go x.holds (refused_first xs ys v why) e
  where
    go : (t : Bool) → (Err why ≡ tested xs v → Err why ≡ tested (xs ++ ys) v)
        → Err why ≡ cond t (Err x.refuses) (tested xs v)
        → Err why ≡ cond t (Err x.refuses) (tested (xs ++ ys) v)
    go true rest e = e
    go false rest e = rest e

pub passed_first : (xs ys : List Row) (v w : View) → Ok w ≡ tested xs v → tested (xs ++ ys) v ≡ tested ys v
passed_first [] ys v w e = refl
passed_first (x ∷ xs) ys v w e = go x.holds (passed_first xs ys v w) e
  where
    go : (t : Bool) → (Ok w ≡ tested xs v → tested (xs ++ ys) v ≡ tested ys v) → Ok w ≡ cond t (Err x.refuses) (tested xs v)
        → cond t (Err x.refuses) (tested (xs ++ ys) v) ≡ tested ys v
    go true rest e = absurd (differ cc)
    go false rest e = rest e

-- whether the first row of a status holds
abbrev pub held_as : Status → List Row → Bool
held_as s [] = false
held_as s (x ∷ xs) = cond (number_of x.refuses.status == number_of s) x.holds (held_as s xs)

-- of rows that passed, none does
pub passed_row : (s : Status) (xs : List Row) (v w : View) → Ok w ≡ tested xs v → held_as s xs ≡ false
passed_row s [] v w e = refl
passed_row s (x ∷ xs) v w e = go x.holds (number_of x.refuses.status == number_of s) (passed_row s xs v w) e
  where
    go : (t c : Bool) → (Ok w ≡ tested xs v → held_as s xs ≡ false) → Ok w ≡ cond t (Err x.refuses) (tested xs v)
        → cond c t (held_as s xs) ≡ false
    go true c rest e = absurd (differ cc)
    go false true rest e = refl
    go false false rest e = rest e

-- ---- checks behind checks

module _ (k : Checked) (rows : View → List Row) where
  pub then_refused : (why : Refusal) → Err why ≡ k → Err why ≡ then k rows
  then_refused why e = rw (← e)

  pub then_passed : (v : View) → Ok v ≡ k → then k rows ≡ tested (rows v) v
  then_passed v e = rw (← e)

  -- what passed had passed before, and then these rows
  pub record Both (w : View) : Type 0 where
    pub before : Ok w ≡ k
    pub here : Ok w ≡ tested (rows w) w

pub then_both : (k : Checked) (rows : View → List Row) (w : View) → Ok w ≡ then k rows → Both k rows w
then_both (Err why) rows w e = absurd (differ cc)
then_both (Ok v) rows w e =
    let same = passed_view (rows v) v w e in
    record { before = rw same; here = rw (← same) at e }

-- ---- 1, and 1 and 2

module _ (words lines entries : ℕ) (h : good_sizes words lines entries ≡ true) where
  pub sizes_told : Sizes lines entries
  unfolding good_sizes
  sizes_told =
      record {
        lines_some = search held depth 12;
        lines_most = search held depth 12;
        entries_some = search held depth 12;
        entries_most = search held depth 12;
      }

  pub words_told : words ≡ board_words lines entries
  unfolding good_sizes
  words_told = search held depth 12

good_board : (words : ℕ) (v : View) → ControlFits v.control → good_shape words v ≡ true → GoodBoard words v
unfolding good_shape good_control
good_board words v fits h =
    let sizes : good_sizes words v.shape.lines v.shape.entries ≡ true = search held depth 12 in
    record {
      sizes = sizes_told words v.shape.lines v.shape.entries sizes;
      board_words_holds = words_told words v.shape.lines v.shape.entries sizes;
      control =
          record {
            start = search held depth 12;
            length = search held depth 12;
            persisted = below (search (held, not-true, eqb-false) depth 12);
          };
    }
  where
    below : (v.control.persisted ≢ last_epoch) → v.control.persisted < last_epoch
    below n = omega (arith, fits.persisted)

control_fits : (board work : List ℕ) (v : View) → v ≡ view_of board work → ControlFits v.control
unfolding view_of
control_fits board work v e = rw e (control_laws.decoded_fits (slice_index board control_at))

shaped_of : (board work : List ℕ) (v : View) → v ≡ view_of board work → good_shape (length board) v ≡ true → good_work (length work) ≡ true
    → Shaped board work v
unfolding good_slots good_work view_of
shaped_of board work v e h g =
    let slots : v.slots ≡ slots_of (length work) = rw e in
    record {
      is = e;
      good = good_board (length board) v (control_fits board work v e) h;
      sets =
          rw slots record {
            whole = search held depth 12;
            some = search held depth 12;
            most = search held depth 12;
          };
      work_words_holds = rw slots (search held depth 12);
    }

pub memories_shaped : (board work : List ℕ) (v : View) → Ok v ≡ memories_checked board work → Shaped board work v
unfolding memories_checked
memories_shaped board work v e =
    let rows = board_rows (length board) (view_of board work) ++ work_rows (length work) in
    let same = passed_view rows (view_of board work) v e in
    shaped_of board work v same (rw same (not-false _ (passed_row status.Shape rows (view_of board work) v e)))
    (not-false _ (passed_row status.Work rows (view_of board work) v e))

pub board_opened : (board : List ℕ) (v : View) → Ok v ≡ board_checked board → Opened board v
unfolding board_checked
board_opened board v e =
    let rows = board_rows (length board) (view_of board []) in
    let same = passed_view rows (view_of board []) v e in
    record {
      is = same;
      good =
          good_board (length board) v (control_fits board [] v same)
          (rw same (not-false _ (passed_row status.Shape rows (view_of board []) v e)));
    }

-- a good work memory has its buffer
pub work_buffer : (words : ℕ) (t : Bool) → t ≡ good_work words → not t ≡ false → buffer_words ≤ words
unfolding good_work
work_buffer words t test good =
    let h : good_work words ≡ true = sym test ∙ not-false t good in
    let whole : words ≡ work_words (slots_of words) = search held depth 12 in
    omega arith

-- ---- 4

proper_of : (v : View) (r : Registers) → proper_registers v r ≡ true → Proper v r
unfolding proper_registers proper_epoch proper_pass proper_counts
proper_of v r h =
    record {
      ahead = search held depth 12;
      epoch_most = search held depth 12;
      window = search held depth 12;
      buffered = search held depth 12;
      cursor = search held depth 12;
      dirty = search held depth 12;
      room = search held depth 12;
      pass = search held depth 12;
    }

pub running : (board work : List ℕ) (r : Registers) (v : View) → Ok v ≡ running_checked board work r → Running board work r v
unfolding running_checked
running board work r v e =
    let b = then_both (memories_checked board work) (λ w. register_rows w r) v e in
    record {
      shaped = memories_shaped board work v b.before;
      proper = proper_of v r (not-false _ (passed_row status.Regs (register_rows v r) v v b.here));
    }

-- ---- 7 and 14

pub ready_running : (board work : List ℕ) (r : Registers) (v : View) → Ok v ≡ ready_checked board work r → Running board work r v
unfolding ready_checked
ready_running board work r v e =
    running board work r v (then_both (running_checked board work r) (λ w. buffer_rows w work r) v e).before

-- ---- 3

-- every entry is proper: the first improper one is behind the last
module _ (board work : List ℕ) (v : View) (e : Ok v ≡ power_up_checked board work) where
  entries_both : Both (memories_checked board work) (λ w. entry_rows board w) v
  unfolding power_up_checked
  entries_both = then_both (memories_checked board work) (λ w. entry_rows board w) v e

  pub entries_shaped : Shaped board work v
  entries_shaped = memories_shaped board work v entries_both.before

  pub entries_proper : v.control.length ≤ first_improper (log_in board (undo_of v all_zero)) v.shape.lines
  entries_proper = ltb-false _ _ (passed_row status.Entry (entry_rows board v) v v entries_both.here)

-- ---- 5, 6, the count, 7 and 14

-- slots that tell nothing against the count: if one of them is dirty, the count is not 0
countable_of : (v : View) (r : Registers) (work visited : List ℕ) (dirty : Bool) → (dirty ≡ true → any_of (dirty_at work) visited ≡ true)
    → miscounted v r work visited ≡ false → r.dirty ≤ v.slots → v.slots ≤ most_slots → Countable r dirty
unfolding miscounted
countable_of v r work visited dirty seen e within most =
    record { least = λ d. some (rw (seen d) at e); most = omega arith }
  where
    none : (a b : Bool) → a && true || b ≡ false → a ≡ false
    none true b x = absurd (false≢true (sym x))
    none false b x = refl

    some : nat_eq r.dirty 0 && true || r.dirty == v.slots && not (all_of (dirty_at work) visited) ≡ false → 0 < r.dirty
    some x =
        let n : r.dirty ≡ 0 → ⊥ = eqb-false _ _ (none (r.dirty == 0) _ x) in
        omega arith

-- the slot of a set that a call works on
spot_dirty : (work : List ℕ) (slots address : ℕ) → dirty_at work (spot_of work slots address).slot ≡ true
    → any_of (dirty_at work) (places_of slots address) ≡ true
spot_dirty work slots address d = go (any_of (dirty_at work) (places_of slots address)) refl
  where
    go : (t : Bool) → any_of (dirty_at work) (places_of slots address) ≡ t → t ≡ true
    go true e = refl
    go false e =
        let no = spot_all work slots address (λ k. not (dirty_at work k)) (none_all (dirty_at work) (places_of slots address) e) in
        absurd (false≢true (sym (not-true (dirty_at work (spot_of work slots address).slot) no) ∙ d))

-- 5 passed
module _ (board work : List ℕ) (r : Registers) (address : ℕ) (v : View) (e : Ok v ≡ named_checked board work r address) where
  named_both : Both (running_checked board work r) (λ w. address_rows w address) v
  unfolding named_checked
  named_both = then_both (running_checked board work r) (λ w. address_rows w address) v e

  pub named_running : Running board work r v
  named_running = running board work r v named_both.before

  pub named_inside : address < v.shape.lines
  named_inside = leb-false _ _ (passed_row status.Address (address_rows v address) v v named_both.here)

-- and 6, the count, 7 and 14
module _ (board work : List ℕ) (r : Registers) (address : ℕ) (v : View) (e : Ok v ≡ line_checked board work r address) where
  line_both : Both (named_checked board work r address) (λ w. line_rows w work r address) v
  unfolding line_checked
  line_both = then_both (named_checked board work r address) (λ w. line_rows w work r address) v e

  line_row : (s : Status) → held_as s (line_rows v work r address) ≡ false
  line_row s = passed_row s (line_rows v work r address) v v line_both.here

  pub line_running : Running board work r v
  line_running = named_running board work r address v line_both.before

  pub line_named : address < v.shape.lines
  line_named = named_inside board work r address v line_both.before

  pub line_proper : proper_set (bounds_of v r) work (places_of v.slots address) ≡ true
  line_proper = not-false _ (line_row status.Slot)

  pub line_countable : Countable r (dirty_at work (spot_of work v.slots address).slot)
  line_countable =
      countable_of v r work (places_of v.slots address) (dirty_at work (spot_of work v.slots address).slot)
      (spot_dirty work v.slots address) (line_row status.Regs) line_running.proper.dirty line_running.shaped.sets.most

-- ---- and 8

module _ (board work : List ℕ) (r : Registers) (address : ℕ) (v : View) (e : Ok v ≡ store_checked board work r address) where
  store_both : Both (line_checked board work r address) (λ w. room_rows w work r (spot_of work w.slots address)) v
  unfolding store_checked
  store_both = then_both (line_checked board work r address) (λ w. room_rows w work r (spot_of work w.slots address)) v e

  pub store_line : Ok v ≡ line_checked board work r address
  store_line = store_both.before

  pub store_room : undo_due work (spot_of work v.slots address) r.epoch ≡ true → v.control.length + r.buffered + 1 ≤ v.shape.entries
  store_room due =
      fits (undo_due work (spot_of work v.slots address) r.epoch) due
      (passed_row status.Room (room_rows v work r (spot_of work v.slots address)) v v store_both.here)
    where
      fits : (t : Bool) → t ≡ true → t && nat_lt v.shape.entries (v.control.length + r.buffered + 1) ≡ false
          → v.control.length + r.buffered + 1 ≤ v.shape.entries
      fits true h x = ltb-false _ _ x
      fits false h x = absurd (false≢true h)

-- ---- commit

module _ (board work : List ℕ) (r : Registers) (v : View) (e : Ok v ≡ commit_checked board work r) where
  commit_both : Both (ready_checked board work r) (λ w. epoch_rows w r) v
  unfolding commit_checked
  commit_both = then_both (ready_checked board work r) (λ w. epoch_rows w r) v e

  commit_row : (s : Status) → held_as s (epoch_rows v r) ≡ false
  commit_row s = passed_row s (epoch_rows v r) v v commit_both.here

  pub commit_running : Running board work r v
  commit_running = ready_running board work r v commit_both.before

  pub commit_window : r.epoch < v.control.persisted + most_ahead
  commit_window =
      let n : r.epoch - v.control.persisted ≡ most_ahead → ⊥ = eqb-false _ _ (commit_row status.Waiting) in
      omega (arith, commit_running.proper.ahead, commit_running.proper.window)

  pub commit_early : r.epoch < last_epoch
  commit_early =
      let n : r.epoch ≡ last_epoch → ⊥ = eqb-false _ _ (commit_row status.Last) in
      omega (arith, commit_running.proper.epoch_most)

-- ---- begin

module _ (board work : List ℕ) (r : Registers) (target : ℕ) (v : View) (e : Ok v ≡ begin_checked board work r target) where
  begin_both : Both (ready_checked board work r) (λ w. target_rows w r target) v
  unfolding begin_checked
  begin_both = then_both (ready_checked board work r) (λ w. target_rows w r target) v e

  begin_row : ((r.target == 0) ≡ true) × (waits v r target ≡ true)
  begin_row =
      go (r.target == 0) (waits v r target) (passed_row status.Target (target_rows v r target) v v begin_both.here)
    where
      go : (t u : Bool) → not t || not u ≡ false → (t ≡ true) × (u ≡ true)
      go true u x = (refl, not-false u x)
      go false u x = absurd (false≢true (sym x))

  pub begin_running : Running board work r v
  begin_running = ready_running board work r v begin_both.before

  -- outside a pass
  pub begin_outside : r.target ≡ 0
  begin_outside = eqb-true _ _ begin_row.0

  pub begin_waits : Waits v.control.persisted r.epoch target
  unfolding waits
  begin_waits = let h : waits v r target ≡ true = begin_row.1 in record { ahead = search held; ended = search held }

-- ---- scan

module _ (board work : List ℕ) (r : Registers) (v : View) (e : Ok v ≡ scan_checked board work r) where
  scan_both : Both (running_checked board work r) (λ w. scan_rows w work r) v
  unfolding scan_checked
  scan_both = then_both (running_checked board work r) (λ w. scan_rows w work r) v e

  scan_row : (s : Status) → held_as s (scan_rows v work r) ≡ false
  scan_row s = passed_row s (scan_rows v work r) v v scan_both.here

  pub scan_running : Running board work r v
  scan_running = running board work r v scan_both.before

  pub scan_proper : r.cursor < v.slots → proper_at (bounds_of v r) work r.cursor ≡ true
  unfolding proper_set
  scan_proper h =
      let row : proper_set (bounds_of v r) work (r.cursor ∷ []) ≡ true =
      not-false _ (rw (lt-ltb r.cursor v.slots h) at (scan_row status.Slot)) in
      search held

  pub scan_countable : r.cursor < v.slots → Countable r (dirty_at work r.cursor)
  scan_countable h =
      countable_of v r work (r.cursor ∷ []) (dirty_at work r.cursor) (λ d. rw d) (rw (lt-ltb r.cursor v.slots h) at (scan_row status.Regs))
      scan_running.proper.dirty scan_running.shaped.sets.most

  pub scan_waiting : v.control.persisted + 1 < r.epoch
  scan_waiting =
      let n : r.epoch ≡ v.control.persisted + 1 → ⊥ = eqb-false _ _ (scan_row status.None) in
      omega (arith, scan_running.proper.ahead)

  -- inside a pass its target waits, and outside one P + 1 does
  pub scan_aims : Waits v.control.persisted r.epoch (scan_target r v.control.persisted)
  unfolding proper_pass waits
  scan_aims =
      go (r.target == 0)
      (and_right (nat_le r.cursor v.slots) (r.target == 0 && r.cursor == 0 || waits v r r.target) scan_running.proper.pass)
    where
      go : (t : Bool) → t && r.cursor == 0 || waits v r r.target ≡ true → Waits v.control.persisted r.epoch (cond t (v.control.persisted + 1) r.target)
      go true h = record { ahead = omega arith; ended = scan_waiting }
      go false h = record { ahead = search held; ended = search held }
