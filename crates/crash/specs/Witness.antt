-- The premises of demand 3 can be met: four lists of calls, computed. Document 01's listing (line 0 is stored 7 in
-- epoch 1 and 9 in epoch 2, and S + 1 scan calls persist epoch 1); then 9 is written in place, the current goes in
-- mid-flush, power-up restores 7, and 7 is exported. The second leaves a log entry that ends as late as one may. In the
-- third one pass persists three epochs, or is cut. The fourth fills a log of one entry.
use Rattle.std.specs.Prelude.{ℕ, ◌+◌, ◌*◌, true, false, ◌≡◌, refl, List, [], ◌∷◌, ◌++◌, length, get_or, replicate}
use Rattle.std.proofs.Common.{arith}
use Rattle.base.specs.Cases.{update}
use Rattle.base.specs.Listed.{listed}
use Rattle.base.specs.Walk.{first_from}
use Rattle.board.specs.Stores.{applied, each, shifted}
use Rattle.board.specs.Verdict.{board_after, work_after}
use Rattle.layout.specs.Bytes.{bytes_of}
use Rattle.layout.specs.Fields.{width, pack, unpack, encode, decode}
use Rattle.layout.specs.Limits.{most_ahead}
use Rattle.layout.specs.Memory.{slots_of, buffer_in, log_at, entry_words, board_words, work_words, formatted, with_buffer, control_in}
use Rattle.layout.specs.Words.{encode_entry, formed}
use Rattle.status.specs.declared.Status.TheVariants as status
use Rattle.status.specs.Names.{bytes}
use Rattle.ranges.specs.Ranges.{covers, proper_range}
use Rattle.undo.specs.Entries.{proper_word, proper_entry}
use Rattle.undo.specs.Recovery.{older_till, proper_at, first_improper, restore_stores, restore_turn}
use Rattle.undo.specs.Log.{place_of, entry_in, old_in, buffered_in, buffered_proper, buffer_proper}
use Rattle.undo.specs.Filter.{first_bit, second_bit, is_set, with_bit, marking, marks, hits}
use Rattle.undo.specs.Log.{buffered_marked, buffer_marked, pushed, entry_stores, flushed, flush_stores, flushed_buffer, expired, dropped, advance_stores}
use Rattle.undo.specs.Log.{recover_stores}
use Rattle.slots.specs.Sets as sets
use Rattle.slots.specs.Slots as slots
use Rattle.steps.specs.Effects as steps
use Rattle.checks.specs.View.{view_of, good_sizes, good_control, good_shape, good_slots, good_work, proper_epoch, proper_counts, waits, proper_pass, proper_registers, miscounted, good_buffer, good_filter}
use Rattle.checks.specs.Refusals.{board_checked, memories_checked, power_up_checked, running_checked, ready_checked, named_checked, line_checked, store_checked, commit_checked, begin_checked, scan_checked}
use Rattle.checks.specs.Registers.{all_zero}
use Rattle.picl.specs.Answers.{answer_of}
use Rattle.picl.specs.Calls as calls
use Rattle.intel_hex.specs.Records.{line_feed, digit, digits_of, text_of, sum_of, check_of, checked, two_bytes, record_text, bank_text, data_text, end_text, records_from}
use Rattle.intel_hex.specs.Export.{most_text, record_at, export_checked, export_report, export_text}
use Rattle.reference.specs.Machine.{resting, up_to}
use Rattle.reference.specs.Runs as runs
use Rattle.crash.specs.Statement.{Step, call, power_up, export_record, made, Both, after, run, persisted_on, line_on, log_on, start, Stretch, scans}

-- "n 4 8 4", with allowances as large as a call can need
abbrev entries : ℕ
entries = 8

-- a board memory that was never formatted, and one of L log entries just formatted, beside the fresh uncached machine
abbrev unformatted : (L : ℕ) → List ℕ
unformatted L = replicate (board_words 4 L) 1

abbrev fresh : (L : ℕ) → Both
fresh L = start (calls.format_after (unformatted L) 4 L) [] all_zero (resting 0 (λ a. 0))

abbrev blank : List ℕ
blank = replicate (work_words 4) 0

abbrev many : ℕ
many = 66

abbrev text : List ℕ
text = replicate most_text 0

abbrev pub worked : List Step
worked =
    power_up blank many
    ∷ call (calls.store 0 7) many
    ∷ call calls.commit many
    ∷ call (calls.store 0 9) many
    ∷ call calls.commit many
    ∷ []

-- S + 1 scan calls, and an export before them
abbrev pub pass : List Step
pass = export_record text 1 ∷ replicate 5 (call calls.scan many)

abbrev pub begun : Both
begun = run (fresh entries) worked

abbrev pub scanned : Both
scanned = run begun pass

-- line 1 is stored to beside line 0, which then leaves the cache; the eviction of line 1 is cut behind the first of
-- four stores
abbrev pub beside : Both
beside = after scanned (call (calls.store 1 5) many)

abbrev pub stored : Both
stored = after beside (call (calls.evict 0) many)

abbrev pub cut_step : Step
cut_step = call (calls.evict 1) 1

abbrev pub cut : Both
cut = after stored cut_step

abbrev pub restarted : Both
restarted = after cut (power_up blank many)

-- 15 epochs wait, line 0 is stored to in the 16th, and its eviction is cut before the last of four stores
abbrev pub fifteen : List Step
fifteen = power_up blank many ∷ replicate 15 (call calls.commit many) ++ call (calls.store 0 7) many ∷ call (calls.evict 0) 3 ∷ []

abbrev pub far : Both
far = run (fresh entries) fifteen

-- a line is stored to in each of three epochs, which then wait, and another in the fourth, which runs
abbrev pub three_epochs : List Step
three_epochs =
    power_up blank many
    ∷ call (calls.store 0 7) many
    ∷ call calls.commit many
    ∷ call (calls.store 1 8) many
    ∷ call calls.commit many
    ∷ call (calls.store 2 9) many
    ∷ call calls.commit many
    ∷ call (calls.store 3 6) many
    ∷ []

abbrev pub waiting : Both
waiting = run (fresh entries) three_epochs

-- one pass for the three, with a commit in its middle
abbrev pub aimed : Both
aimed = after waiting (call (calls.begin 3) 0)

abbrev pub sweep : List Step
sweep = call calls.scan many ∷ call calls.scan many ∷ call calls.commit many ∷ replicate 3 (call calls.scan many)

abbrev pub swept : Both
swept = run aimed sweep

-- or its second visit is cut: line 0 is written out, and epoch 0 is still the persisted one
abbrev pub interrupted : Both
interrupted = run aimed (call calls.scan many ∷ call calls.scan 0 ∷ [])

-- with one log entry, which line 0 has taken
abbrev pub filled : Both
filled = run (fresh 1) (power_up blank many ∷ call (calls.store 0 7) many ∷ [])

pub record Met : Type 0 where
  -- the premise of `Demand3`
  pub format_accepted : (calls.format_report (unformatted entries) 4 entries).status ≡ status.Ok
  -- the premises of `persists`
  pub stretch : Stretch begun.machine pass
  pub all_accepted : slots_of (length begun.machine.work) + 1 ≡ scans begun.machine pass
  pub persisted : (begun.reference.persisted ≡ 0) × (scanned.reference.persisted ≡ 1)
  -- the cut came in mid-flush: the first word of the entry at place 2 is on the board, and the control word does not
  -- count it yet
  pub off : cut.machine.registers.epoch ≡ 0
  pub entry_word : get_or cut.machine.board (log_at + entry_words * 2) 0 ≡ encode_entry (record { address = 1; till = 3; span = 2 })
  pub uncounted : (control_in cut.machine.board).length ≡ 1
  -- the premise of `recovers_to_copy`, and a line that is restored
  pub in_place : line_on entries cut.machine.board 0 ≡ 9
  pub accepted : (made cut.machine (power_up blank many)).status ≡ status.Ok
  pub restored : line_on entries (made cut.machine (power_up blank many)).left.board 0 ≡ 7
  pub copy : cut.reference.copies 1 0 ≡ 7
  -- the premise of `log_proper`, with an entry that ends as late as any may: 16 epochs after P
  pub far_counted : (control_in far.machine.board).length ≡ 1
  pub far_till : (entry_in far.machine.board (log_on entries far.machine.board) 0).till ≡ persisted_on far.machine.board + most_ahead
  -- and that spans as many epochs as any may
  pub far_span : (entry_in far.machine.board (log_on entries far.machine.board) 0).span ≡ most_ahead
  -- the premise of `filter_exact`, and of `buffer_spans`: running, with entries of line 0 buffered; its one bit is set and no other, and the
  -- scan's flush clears it
  pub running : begun.machine.registers.epoch ≡ 3
  pub marked : (is_set (buffer_in begun.machine.work) 0 ≡ true) × (is_set (buffer_in begun.machine.work) 1 ≡ false)
  pub cleared : is_set (buffer_in scanned.machine.work) 0 ≡ false
  -- the premises of `count_true`, `tallies` and `none_after_cut`: running with one dirty slot, a tally that tells it,
  -- and a call that is cut
  pub one_dirty : (stored.machine.registers.epoch ≡ 3) × (stored.machine.registers.dirty ≡ 1)
  pub tallied : ((made stored.machine (call calls.tally 0)).status ≡ status.Ok) × ((made stored.machine (call calls.tally 0)).value ≡ 1)
  pub cut_short : (made stored.machine cut_step).status ≡ status.Cut
  -- the premise of `loads`: a held line that was stored to since, and the recovered line, which is brought from memory
  pub loaded_held : ((made begun.machine (call (calls.load 0) many)).status ≡ status.Ok)
      × ((made begun.machine (call (calls.load 0) many)).value ≡ 9)
  pub loaded_recovered : ((made restarted.machine (call (calls.load 0) many)).status ≡ status.Ok)
      × ((made restarted.machine (call (calls.load 0) many)).value ≡ 7)
  -- the premise of `full`
  pub no_room : (made filled.machine (call (calls.store 1 5) many)).status ≡ status.Room
  -- request 6/13: two lines of one set are held side by side
  pub shared : (slots.holds beside.machine.work 0 0 ≡ true) × (slots.holds beside.machine.work 1 1 ≡ true)
  -- request 7/13: the premises of `lines_with_empty_log` and `exports`, at work and restarted, and an export that a log
  -- of one entry stops. At work line 0 is 9 since epoch 2, and what is exported is copy 0.
  pub exported_at_work : ((made begun.machine (export_record text 1)).status ≡ status.Ok) × (begun.reference.lines 0 ≡ 9)
  pub text_at_work : export_text begun.machine.board 1 text ≡ bytes ":1000000000000000000000000000000000000000F0" ++ (line_feed ∷ [])
  pub log_held : (made cut.machine (export_record text 1)).status ≡ status.LogHeld
  pub exported_restarted : ((made restarted.machine (export_record text 1)).status ≡ status.Ok) × ((control_in restarted.machine.board).length ≡ 0)
  pub text_restarted : export_text restarted.machine.board 1 text ≡ bytes ":1000000000000000000000070000000000000000E9" ++ (line_feed ∷ [])
  -- request 8/13: the premises of `begins_all` and `persists_target`; the lines of the three epochs are written out,
  -- and the fourth's is not
  pub outside_pass : (waiting.machine.registers.target ≡ 0) × (waiting.machine.registers.epoch ≡ 4)
  pub begin_accepted : (made waiting.machine (call (calls.begin 3) 0)).status ≡ status.Ok
  pub begin_refused : ((made aimed.machine (call (calls.begin 3) 0)).status ≡ status.Target)
      × ((made waiting.machine (call (calls.begin 4) 0)).status ≡ status.Target)
  pub pass_stretch : Stretch aimed.machine sweep
  pub pass_accepted : slots_of (length aimed.machine.work) + 1 ≡ scans aimed.machine sweep
  pub pass_persisted : (persisted_on aimed.machine.board ≡ 0) × (persisted_on swept.machine.board ≡ 3)
  pub written_out : listed (line_on entries swept.machine.board) 0 4 ≡ 7 ∷ 8 ∷ 9 ∷ 0 ∷ []
  -- of the pass that is cut nothing remains
  pub pass_cut : (interrupted.machine.registers.epoch ≡ 0) × (persisted_on interrupted.machine.board ≡ 0) × (line_on entries interrupted.machine.board 0 ≡ 7)
  pub taken_back : listed (line_on entries (made interrupted.machine (power_up blank many)).left.board) 0 4 ≡ 0 ∷ 0 ∷ 0 ∷ 0 ∷ []

differ : ◌≡◌ {A = ℕ} 0 1 → ⊥
differ e = omega arith

pub met : Met
unfolding update first_from applied each shifted board_after work_after width pack unpack formatted with_buffer
    encode decode
    covers formed proper_range proper_word proper_entry place_of entry_in old_in older_till proper_at first_improper buffered_in buffered_proper buffer_proper
    first_bit second_bit is_set with_bit marking marks hits buffered_marked buffer_marked pushed entry_stores flushed flush_stores flushed_buffer expired dropped advance_stores restore_stores restore_turn recover_stores
    slots.set_of slots.proper_tag slots.proper_full slots.proper_slot slots.proper_at slots.holds sets.places_of sets.proper_set sets.victim_of sets.spot_of
    slots.zeroed slots.filled slots.dirtied slots.cleaned slots.entry_due slots.undo_due
    steps.flushing_if steps.writing_out steps.writing_back steps.emptying steps.line_in steps.bringing steps.entry_for steps.logged
    steps.storing_held steps.loading steps.storing steps.evicting steps.cleaning steps.visiting steps.persisting
    view_of good_sizes good_control good_shape good_slots good_work proper_epoch proper_counts waits proper_pass proper_registers miscounted good_buffer good_filter
    memories_checked power_up_checked running_checked ready_checked named_checked line_checked store_checked commit_checked begin_checked scan_checked answer_of
    calls.format_report calls.format_after calls.load_at calls.load_outcome calls.store_at calls.store_outcome calls.evict_at calls.evict_outcome
    calls.scan_at calls.scan_outcome calls.power_up_outcome calls.power_up_verdict
    board_checked bytes_of digit digits_of text_of sum_of check_of checked two_bytes record_text bank_text data_text end_text records_from
    record_at export_checked export_report export_text
    up_to listed made runs.run scans
met =
    record {
      format_accepted = refl;
      stretch = (tt, (λ e. differ cc, (λ e. differ cc, (λ e. differ cc, (λ e. differ cc, (λ e. differ cc, tt))))));
      all_accepted = refl;
      persisted = (refl, refl);
      off = refl;
      entry_word = refl;
      uncounted = refl;
      in_place = refl;
      accepted = refl;
      restored = refl;
      copy = refl;
      far_counted = refl;
      far_till = refl;
      far_span = refl;
      running = refl;
      marked = (refl, refl);
      cleared = refl;
      one_dirty = (refl, refl);
      tallied = (refl, refl);
      cut_short = refl;
      loaded_held = (refl, refl);
      loaded_recovered = (refl, refl);
      no_room = refl;
      shared = (refl, refl);
      exported_at_work = (refl, refl);
      text_at_work = refl;
      log_held = refl;
      exported_restarted = (refl, refl);
      text_restarted = refl;
      outside_pass = (refl, refl);
      begin_accepted = refl;
      begin_refused = (refl, refl);
      pass_stretch = (λ e. differ cc, (λ e. differ cc, (λ e. differ cc, (λ e. differ cc, (λ e. differ cc, (λ e. differ cc, tt))))));
      pass_accepted = refl;
      pass_persisted = (refl, refl);
      written_out = refl;
      pass_cut = (refl, refl, refl);
      taken_back = refl;
    }
