-- Request 9/13 on the bench of the worked examples: words whose fields are all ones, spans that an entry may have or not, and epochs that need
-- more than 32 bits.
use Rattle.std.specs.Prelude.{ℕ, ◌+◌, ◌-◌, ◌*◌, ◌^◌, ◌≡◌, refl, true, false, List, [], ◌∷◌, set}
use Rattle.base.specs.Walk.{first_from}
use Rattle.board.specs.Stores.{applied, each, shifted}
use Rattle.board.specs.Verdict.{refused, board_after}
use Rattle.layout.specs.Fields.{width, pack, unpack, encode, decode}
use Rattle.layout.specs.Limits.{last_epoch}
use Rattle.layout.specs.Memory.{shape_for, with_buffer}
use Rattle.layout.specs.Words.{encode_control, encode_shape, encode_entry, encode_slot, formed}
use Rattle.status.specs.declared.Status.TheVariants as status
use Rattle.ranges.specs.Ranges.{covers, proper_range}
use Rattle.undo.specs.Entries.{proper_word, proper_entry}
use Rattle.undo.specs.Recovery as recovery
use Rattle.undo.specs.Filter as filters
use Rattle.undo.specs.Log as log
use Rattle.slots.specs.Slots as slots
use Rattle.slots.specs.Sets as sets
use Rattle.steps.specs.Effects as steps
use Rattle.checks.specs.Registers.{all_zero, given}
use Rattle.checks.specs.View as view
use Rattle.checks.specs.Refusals as refusals
use Rattle.picl.specs.declared.Answer.{Answer}
use Rattle.picl.specs.Answers.{Verdict, answer_of}
use Rattle.picl.specs.Calls as calls
use Rattle.picl.specs.Calls.{verdict_of, power_up_verdict}
use Rattle.worked.specs.Bench.{control, slot, clean, dirty, undo, work, quiet, unmarked, marked3, power_up, store, commit, still, ok, improper}

-- an entry for line 3 by its fields, with the data 4
abbrev spanning : (till span : ℕ) → List ℕ
spanning till span = encode_entry (record { address = 3; till = till; span = span }) ∷ 4 ∷ []

-- a power-up with P 1 that finds it in the log, and what it answers where it restores the line
abbrev logged : (till span : ℕ) → Answer
logged till span = answer_of 2 all_zero (power_up (control 1 0 1) (spanning till span))

abbrev restored : Answer
restored = ok 0 2 (given 2 0 0 0 0)

-- an eviction of line 3 that finds it in the buffer, at P 4 and s 20
abbrev buffered : (till span : ℕ) → Verdict
buffered till span = verdict_of (quiet 4) (work (dirty 20) 9 (spanning till span) marked3) (given 20 1 0 1 0) (calls.evict 3)

-- and answers where it flushes, and writes the line out
abbrev written_out : Answer
written_out = ok 1 4 (given 20 0 0 0 0)

-- the bench's board with another shape word
abbrev shaped : (shape : ℕ) → List ℕ
shaped shape = set (quiet 0) 1 shape

abbrev far : ℕ
far = 2 ^ 32

pub record FortyBits : Type 0 where
  -- fields of ones: each in its place and in no other. Address 16, ValidTill 40, span 8 ..
  pub ones_entry : (encode_entry (record { address = 65535; till = 0; span = 255 }) ≡ 0xFFFF0000000000FF)
      × (encode_entry (record { address = 0; till = last_epoch; span = 0 }) ≡ 0x0000FFFFFFFFFF00)
  -- .. P 40, start 12, length 12, and 1 in 24 bits, N 20, L 20 ..
  pub ones_control : (encode_control (control last_epoch 0 4095) ≡ 0xFFFFFFFFFF000FFF) × (encode_control (control 0 4095 0) ≡ 0x0000000000FFF000)
  pub ones_shape : encode_shape (shape_for 65536 4095) ≡ 0x0000011000000FFF
  -- .. and 18 ones and 46 zeros; a one, 17 zeros, 40 ones and 6 zeros
  pub ones_slot : (encode_slot (slot true true 65535 0) ≡ 0xFFFFC00000000000) × (encode_slot (slot true false 0 last_epoch) ≡ 0x80003FFFFFFFFFC0)
  -- "only spans 1 to 16 arise": in the log these are taken, also one that begins in epoch 0 ..
  pub log_spans : (logged 2 1 ≡ restored) × (logged 17 16 ≡ restored) × (logged 2 2 ≡ restored)
  -- .. "another, or one above its ValidTill, makes an entry improper": 0, 17 and 255, and 3 where ValidTill is 2
  pub log_spans_refused : (logged 2 0 ≡ improper 0) × (logged 17 17 ≡ improper 0) × (logged 17 255 ≡ improper 0) × (logged 2 3 ≡ improper 0)
  -- and in the buffer
  pub buffer_spans : (answer_of 4 (given 20 1 0 1 0) (buffered 20 1) ≡ written_out) × (answer_of 4 (given 20 1 0 1 0) (buffered 20 16) ≡ written_out)
  pub buffer_spans_refused : (buffered 20 0 ≡ refused status.Buffer 0) × (buffered 20 17 ≡ refused status.Buffer 0)
      × (buffered 20 255 ≡ refused status.Buffer 0) × (buffered 2 3 ≡ refused status.Buffer 0)
  -- a store makes the widest where 15 epochs wait: P 1, s 17
  pub widest : store 1 17 clean ≡ still (given 17 1 0 1 0) (work (dirty 17) 9 (undo 3 1 17 7) marked3)
  -- "EIDs become 40 bits": a store and a commit behind 2^32, and the last epoch
  pub stores_far : store far (far + 1) clean ≡ still (given (far + 1) 1 0 1 0) (work (dirty (far + 1)) 9 (undo 3 far (far + 1) 7) marked3)
  pub commits_far : commit far (far + 1) ≡ still (given (far + 2) 0 0 0 0) (work clean 7 [] unmarked)
  pub last : (commit (last_epoch - 2) (last_epoch - 1) ≡ still (given last_epoch 0 0 0 0) (work clean 7 [] unmarked))
      × (commit (last_epoch - 1) last_epoch ≡ refused status.Last 0)
  pub last_persisted : power_up (control last_epoch 0 0) [] ≡ refused status.Shape 0
  -- "so L is 1 to 4,095", for format too
  pub most_entries_holds : (view.good_sizes (2 + 2 * 4095 + 1) 1 4095 ≡ true) × (view.good_sizes (2 + 2 * 4096 + 1) 1 4096 ≡ false)
  -- "The shape word's first 24 bits hold 1 instead of 0": neither 0 nor 2 is taken
  pub versions : (power_up_verdict (shaped 0x0000000000400008) (work clean 7 [] unmarked) ≡ refused status.Shape 0)
      × (power_up_verdict (shaped 0x0000020000400008) (work clean 7 [] unmarked) ≡ refused status.Shape 0)

pub forty_bits : FortyBits
unfolding width pack unpack encode decode first_from applied each shifted board_after with_buffer covers formed proper_range proper_word proper_entry
    filters.first_bit filters.second_bit filters.is_set filters.with_bit filters.marking filters.marks filters.hits
    log.place_of log.entry_in log.old_in recovery.older_till recovery.proper_at recovery.first_improper log.buffered_in log.buffered_proper log.buffer_proper
    log.buffered_marked log.buffer_marked log.pushed log.entry_stores log.flushed log.flush_stores log.flushed_buffer recovery.restore_stores
    recovery.restore_turn log.recover_stores
    slots.set_of slots.proper_tag slots.proper_full slots.proper_slot slots.proper_at slots.holds slots.zeroed slots.dirtied slots.entry_due slots.undo_due
    sets.places_of sets.proper_set sets.victim_of sets.spot_of
    steps.flushing_if steps.writing_out steps.writing_back steps.emptying steps.entry_for steps.logged steps.storing_held steps.loading steps.storing steps.evicting
    view.view_of view.good_sizes view.good_control view.good_shape view.good_slots view.good_work view.proper_epoch view.proper_counts view.waits view.proper_pass
    view.proper_registers view.miscounted view.good_buffer view.good_filter
    refusals.memories_checked refusals.power_up_checked refusals.running_checked refusals.ready_checked refusals.named_checked refusals.line_checked
    refusals.store_checked refusals.commit_checked answer_of
    calls.store_at calls.store_outcome calls.evict_at calls.evict_outcome calls.power_up_outcome calls.power_up_verdict
forty_bits =
    record {
      ones_entry = (refl, refl);
      ones_control = (refl, refl);
      ones_shape = refl;
      ones_slot = (refl, refl);
      log_spans = (refl, refl, refl);
      log_spans_refused = (refl, refl, refl, refl);
      buffer_spans = (refl, refl);
      buffer_spans_refused = (refl, refl, refl, refl);
      widest = refl;
      stores_far = refl;
      commits_far = refl;
      last = (refl, refl);
      last_persisted = refl;
      most_entries_holds = (refl, refl);
      versions = (refl, refl);
    }
