-- Request 8/13 on the bench of the sets, line a of the board having 100 + a: 0 is persisted, 1, 2 and 3 wait, 4 runs. Line 4 was stored to in
-- epoch 1, line 5 in 2, line 6 in 3 and line 7 in epoch 4; each has 200 + a in its slot, and its entry is in the log.
use Rattle.std.specs.Prelude.{ℕ, ◌*◌, ◌≡◌, refl, List, [], ◌∷◌, ◌++◌}
use Rattle.base.specs.Walk.{first_from}
use Rattle.board.specs.Stores.{Store, applied, each, shifted, one}
use Rattle.board.specs.Verdict.{refused, due, board_after, work_after}
use Rattle.layout.specs.declared.Control.{Control}
use Rattle.layout.specs.Fields.{width, pack, unpack, encode, decode}
use Rattle.layout.specs.Memory.{shape_for, with_buffer}
use Rattle.layout.specs.Words.{encode_control, encode_shape, formed}
use Rattle.status.specs.declared.Status.TheVariants as status
use Rattle.ranges.specs.Ranges.{covers, proper_range}
use Rattle.undo.specs.Entries.{proper_word, proper_entry}
use Rattle.undo.specs.Recovery as recovery
use Rattle.undo.specs.Filter as filters
use Rattle.undo.specs.Log as log
use Rattle.slots.specs.Slots as slots
use Rattle.slots.specs.Sets as sets
use Rattle.steps.specs.Effects as steps
use Rattle.checks.specs.declared.Registers.{Registers}
use Rattle.checks.specs.Registers.{all_zero, given}
use Rattle.checks.specs.View as view
use Rattle.checks.specs.Refusals as refusals
use Rattle.picl.specs.Answers.{Verdict, answer_of, cut_off}
use Rattle.picl.specs.Calls as calls
use Rattle.picl.specs.Calls.{verdict_of, power_up_verdict}
use Rattle.worked.specs.Bench as bench
use Rattle.worked.specs.Bench.{control, undo, unmarked, padded, quiet, still, ok}
use Rattle.worked.specs.Counted.{bad_entry}
use Rattle.worked.specs.Sets.{dirty, cleaned, four, holding, written, unwritten, none}

-- ---- the board: its lines 4, 5 and 6 as given

abbrev lines : (a b c : ℕ) → List ℕ
lines a b c = 100 ∷ 101 ∷ 102 ∷ 103 ∷ a ∷ b ∷ c ∷ 107 ∷ 108 ∷ 109 ∷ 110 ∷ 111 ∷ []

abbrev board : Control → (lines : List ℕ) → List ℕ
board c lines =
    encode_control c
    ∷ encode_shape (shape_for 12 8)
    ∷ padded (2 * 8) (undo 4 0 1 104 ++ (undo 5 0 2 105 ++ (undo 6 0 3 106 ++ undo 7 0 4 107)))
    ++ lines

abbrev before : List ℕ
before = board (control 0 0 4) (lines 104 105 106)

-- ---- the slots, with the first of them swept

abbrev swept0 : List ℕ
swept0 = four (dirty 4 1) (dirty 5 2) (dirty 6 3) (dirty 7 4)

abbrev swept1 : List ℕ
swept1 = four (cleaned 4) (dirty 5 2) (dirty 6 3) (dirty 7 4)

abbrev swept2 : List ℕ
swept2 = four (cleaned 4) (cleaned 5) (dirty 6 3) (dirty 7 4)

abbrev swept3 : List ℕ
swept3 = four (cleaned 4) (cleaned 5) (cleaned 6) (dirty 7 4)

-- ---- the registers in epoch 4, and calls on them

abbrev at : (cursor count target : ℕ) → Registers
at cursor count target = given 4 0 cursor count target

abbrev beginning : Registers → (target : ℕ) → Verdict
beginning r target = verdict_of before (holding swept0) r (calls.begin target)

abbrev scanning : (slots : List ℕ) → Registers → Verdict
scanning slots r = verdict_of before (holding slots) r calls.scan

abbrev visited : List Store → (slots : List ℕ) → Registers → Verdict
visited stores slots r = due (record { value = 0; registers = r; work = holding slots; stores = stores })

abbrev tallied : (persisted : ℕ) → Registers → Verdict
tallied persisted r = verdict_of (board (control persisted 0 0) (lines 104 105 106)) (holding none) r calls.tally

abbrev powering_up : (board : List ℕ) → Verdict
powering_up board = power_up_verdict board (holding none)

pub record Passes : Type 0 where
  -- "A begin call takes a target from P + 1 to s − 1; it visits no slot": 1 and 3 are, 0 and 4 are not
  pub begins : (beginning (at 0 4 0) 1 ≡ still (at 0 4 1) (holding swept0)) × (beginning (at 0 4 0) 3 ≡ still (at 0 4 3) (holding swept0))
  pub out_of_range : (beginning (at 0 4 0) 0 ≡ refused status.Target 0) × (beginning (at 0 4 0) 4 ≡ refused status.Target 0)
  -- so with s = P + 1 every target is refused, and not as 11
  pub none_waits : verdict_of (quiet 0) (holding none) (given 1 0 0 0 0) (calls.begin 1) ≡ refused status.Target 0
  -- "15 target, a begin call inside a pass": just begun, and under way
  pub begun_already : (beginning (at 0 4 2) 3 ≡ refused status.Target 0) × (beginning (at 2 4 3) 3 ≡ refused status.Target 0)
  -- "after commit's 1, 2, 4, 7 and 14": the target 9 is out of range as well
  pub after_7 : verdict_of (quiet 0) bad_entry (given 2 1 0 1 0) (calls.begin 9) ≡ refused status.Buffer 0
  pub after_14 : verdict_of (quiet 0) (bench.work bench.clean 7 (undo 3 0 2 7) unmarked) (given 2 1 0 0 0) (calls.begin 9) ≡ refused status.Filter 0
  -- "the pass then writes out dirty lines with tags up to the target": 1, 2 and 3, and not 4
  pub visits_1 : scanning swept0 (at 0 4 3) ≡ visited (written 4) swept1 (at 1 3 3)
  pub visits_2 : scanning swept1 (at 1 3 3) ≡ visited (written 5) swept2 (at 2 2 3)
  pub visits_3 : scanning swept2 (at 2 2 3) ≡ visited (written 6) swept3 (at 3 1 3)
  pub leaves_4 : scanning swept3 (at 3 1 3) ≡ visited unwritten swept3 (at 4 1 3)
  -- "and finishes with P = target, dropping entries by it": those that end in 1, 2 and 3. "The registers gain the target, 0 outside a pass."
  pub finishes : scanning swept3 (at 4 1 3)
      ≡ due (record { value = 3; registers = at 0 1 0; work = holding swept3; stores = one 0 (encode_control (control 3 3 1)) })
  -- "the crash rule includes such passes": cut before its last store, the board recovers to epoch 0, and behind it as of epoch 3
  pub cut_last : answer_of 0 (at 4 1 3) (scanning swept3 (at 4 1 3)) ≡ cut_off 0
  pub restores_0 : (answer_of 5 all_zero (powering_up (board (control 0 0 4) (lines 204 205 206))) ≡ ok 0 5 (given 1 0 0 0 0))
      × (board_after 5 (board (control 0 0 4) (lines 204 205 206)) (powering_up (board (control 0 0 4) (lines 204 205 206)))
      ≡ board (control 0 0 0) (lines 104 105 106))
  pub restores_3 : (answer_of 2 all_zero (powering_up (board (control 3 3 1) (lines 204 205 206))) ≡ ok 0 2 (given 4 0 0 0 0))
      × (board_after 2 (board (control 3 3 1) (lines 204 205 206)) (powering_up (board (control 3 3 1) (lines 204 205 206)))
      ≡ board (control 3 0 0) (lines 204 205 206))
  -- "A scan call outside a pass begins one with P + 1", and visits slot 0; tag 2 is then not its target
  pub begins_itself : scanning swept0 (at 0 4 0) ≡ visited (written 4) swept1 (at 1 3 1)
  pub goes_on : scanning swept1 (at 1 3 1) ≡ visited unwritten swept1 (at 2 3 1)
  -- the target stays when the running epoch ends
  pub commits : verdict_of before (holding swept2) (at 2 2 3) calls.commit ≡ still (given 5 0 2 2 3) (holding swept2)
  -- "Registers are proper with target 0 and c = 0, or with P < target < s": not with a cursor alone, nor with P or s ..
  pub cursor_alone : tallied 0 (at 1 0 0) ≡ refused status.Regs 0
  pub target_out : (tallied 1 (at 0 0 1) ≡ refused status.Regs 0) × (tallied 0 (at 0 0 4) ≡ refused status.Regs 0)
  -- .. but with all between them, c = 0 or not; "c ≤ S"
  pub target_in : (tallied 0 (at 0 0 1) ≡ still (at 0 0 1) (holding none)) × (tallied 0 (at 4 0 3) ≡ still (at 4 0 3) (holding none))
  pub cursor_out : tallied 0 (at 5 0 3) ≡ refused status.Regs 0

pub passes : Passes
unfolding width pack unpack encode decode first_from applied each shifted board_after work_after with_buffer covers formed proper_range proper_word proper_entry
    filters.first_bit filters.second_bit filters.is_set filters.marks filters.hits
    log.place_of log.entry_in log.old_in recovery.older_till recovery.proper_at recovery.first_improper log.buffered_in log.buffered_proper log.buffer_proper log.buffered_marked
    log.buffer_marked log.entry_stores log.flushed log.flush_stores log.flushed_buffer log.expired log.dropped log.advance_stores recovery.restore_stores
    recovery.restore_turn log.recover_stores
    slots.set_of slots.proper_tag slots.proper_full slots.proper_slot slots.proper_at slots.cleaned sets.places_of sets.proper_set
    steps.flushing_if steps.writing_out steps.cleaning steps.visiting steps.persisting
    view.view_of view.good_sizes view.good_control view.good_shape view.good_slots view.good_work view.proper_epoch view.proper_counts view.waits view.proper_pass
    view.proper_registers view.miscounted view.good_buffer view.good_filter
    refusals.memories_checked refusals.power_up_checked refusals.running_checked refusals.ready_checked refusals.commit_checked refusals.begin_checked refusals.scan_checked answer_of
    calls.scan_at calls.scan_outcome
    calls.power_up_outcome calls.power_up_verdict
passes =
    record {
      begins = (refl, refl);
      out_of_range = (refl, refl);
      none_waits = refl;
      begun_already = (refl, refl);
      after_7 = refl;
      after_14 = refl;
      visits_1 = refl;
      visits_2 = refl;
      visits_3 = refl;
      leaves_4 = refl;
      finishes = refl;
      cut_last = refl;
      restores_0 = (refl, refl);
      restores_3 = (refl, refl);
      begins_itself = refl;
      goes_on = refl;
      commits = refl;
      cursor_alone = refl;
      target_out = (refl, refl);
      target_in = (refl, refl);
      cursor_out = refl;
    }
