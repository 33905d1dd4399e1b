-- Request 6/13, row by row, on the bench of the sets: which slot a line takes, where it is held, what a set is refused for, and numbers of slots.
use Rattle.std.specs.Prelude.{◌≡◌, refl, [], ◌++◌, set}
use Rattle.std.specs.Int.Count.{ones}
use Rattle.base.specs.Walk.{first_from}
use Rattle.board.specs.Stores.{applied, each, shifted}
use Rattle.board.specs.Verdict.{refused, board_after, work_after}
use Rattle.layout.specs.Fields.{width, pack, unpack, encode, decode}
use Rattle.layout.specs.Memory.{with_buffer}
use Rattle.status.specs.declared.Status.TheVariants as status
use Rattle.layout.specs.Words.{formed}
use Rattle.ranges.specs.Ranges.{proper_range}
use Rattle.undo.specs.Entries.{proper_word}
use Rattle.undo.specs.Filter.{first_bit, second_bit, is_set, with_bit, marking, marks, hits, ones_of}
use Rattle.undo.specs.Log.{place_of, buffered_in, buffered_proper, buffer_proper, buffered_marked, buffer_marked}
use Rattle.undo.specs.Log.{pushed, entry_stores, flushed, flush_stores, flushed_buffer}
use Rattle.slots.specs.Slots as slots
use Rattle.slots.specs.Sets as sets
use Rattle.steps.specs.Effects as steps
use Rattle.checks.specs.Registers.{given}
use Rattle.checks.specs.View.{view_of, good_sizes, good_control, good_shape, good_slots, good_work, proper_epoch, proper_counts, waits, proper_pass, proper_registers, miscounted}
use Rattle.checks.specs.View.{good_buffer, good_filter}
use Rattle.checks.specs.Refusals.{memories_checked, power_up_checked, running_checked, ready_checked, named_checked, line_checked, store_checked, scan_checked}
use Rattle.picl.specs.Answers.{cut_off, answer_of}
use Rattle.picl.specs.Calls as calls
use Rattle.picl.specs.Calls.{report}
use Rattle.worked.specs.Bench.{undo, ok}
use Rattle.worked.specs.Sets.{empty, clean, dirty, cleaned, stored, odd, tagged, four, none, all_dirty, lines, board_of, board, holding, buffering, load_buffering}
use Rattle.worked.specs.Sets.{loading_of, loading, storing, evicting, scanning, full_log, powering_up, loading_from, bits_of}
use Rattle.worked.specs.Sets.{unwritten, written, leaves, logs, visits}

pub record FourWays : Type 0 where
  -- "A line not held takes the first empty slot": it stands behind a clean one; there are two
  pub empty_behind : loading (four (clean 4) (clean 5) empty (clean 6)) 0 ≡ leaves 103 unwritten (four (clean 4) (clean 5) (clean 3) (clean 6)) 0
  pub empty_last : loading (four (dirty 4 1) (clean 5) (dirty 6 1) empty) 2 ≡ leaves 103 unwritten (four (dirty 4 1) (clean 5) (dirty 6 1) (clean 3)) 2
  pub empty_first : loading (four (dirty 4 1) empty (clean 5) empty) 1 ≡ leaves 103 unwritten (four (dirty 4 1) (clean 3) (clean 5) empty) 1
  pub empty_stored : storing (four (clean 4) (dirty 5 1) empty (clean 6)) 1 ≡ logs 0 103 unwritten (four (clean 4) (dirty 5 1) stored (clean 6)) 2
  -- "else the first clean one": it stands behind dirty ones; there are two
  pub clean_behind : loading (four (dirty 4 1) (dirty 5 1) (clean 6) (dirty 7 1)) 3
      ≡ leaves 103 unwritten (four (dirty 4 1) (dirty 5 1) (clean 3) (dirty 7 1)) 3
  pub clean_first : loading (four (dirty 4 1) (clean 5) (clean 6) (dirty 7 1)) 2 ≡ leaves 103 unwritten (four (dirty 4 1) (clean 3) (clean 6) (dirty 7 1)) 2
  pub clean_stored : storing (four (dirty 4 1) (dirty 5 1) (dirty 6 1) (clean 7)) 3
      ≡ logs 0 103 unwritten (four (dirty 4 1) (dirty 5 1) (dirty 6 1) stored) 4
  -- "else the dirty one with the smallest tag", in each slot; its line is written out, and a fill lowers the count
  pub smallest_first : loading (all_dirty 1 2 3 2) 4 ≡ leaves 103 (written 4) (four (clean 3) (dirty 5 2) (dirty 6 3) (dirty 7 2)) 3
  pub smallest_second : loading (all_dirty 2 1 3 3) 4 ≡ leaves 103 (written 5) (four (dirty 4 2) (clean 3) (dirty 6 3) (dirty 7 3)) 3
  pub smallest_third : loading (all_dirty 3 3 1 2) 4 ≡ leaves 103 (written 6) (four (dirty 4 3) (dirty 5 3) (clean 3) (dirty 7 2)) 3
  pub smallest_last : loading (all_dirty 3 2 2 1) 4 ≡ leaves 103 (written 7) (four (dirty 4 3) (dirty 5 2) (dirty 6 2) (clean 3)) 3
  -- "lowest slot among equals": of four, of two with another between them, of the last two
  pub equal_four : loading (all_dirty 2 2 2 2) 4 ≡ leaves 103 (written 4) (four (clean 3) (dirty 5 2) (dirty 6 2) (dirty 7 2)) 3
  pub equal_two : loading (all_dirty 3 1 2 1) 4 ≡ leaves 103 (written 5) (four (dirty 4 3) (clean 3) (dirty 6 2) (dirty 7 1)) 3
  pub equal_last : loading (all_dirty 3 3 2 2) 4 ≡ leaves 103 (written 6) (four (dirty 4 3) (dirty 5 3) (clean 3) (dirty 7 2)) 3
  -- the line that a store brings in is dirty in the slot that was chosen as the call found the set: the count stays
  pub over_dirty : storing (all_dirty 2 3 1 2) 4 ≡ logs 0 103 (written 6) (four (dirty 4 2) (dirty 5 3) stored (dirty 7 2)) 4
  pub over_dirty_ok : answer_of 1 (given 3 0 0 4 0) (storing (all_dirty 2 3 1 2) 4) ≡ ok 0 1 (given 3 1 0 4 0)
  pub over_dirty_board : board_after 1 board (storing (all_dirty 2 3 1 2) 4) ≡ board_of 0 [] (set lines 6 206)
  pub over_dirty_cut : answer_of 0 (given 3 0 0 4 0) (storing (all_dirty 2 3 1 2) 4) ≡ cut_off 0
  -- the write-out flushes first where the line that goes has its entry buffered: three stores, and the line's
  pub buffered_ok : answer_of 4 (given 3 1 0 4 0) load_buffering ≡ ok 101 4 (given 3 0 0 3 0)
  pub buffered_board : board_after 4 board load_buffering ≡ board_of 1 (undo 3 0 2 103) (set lines 3 203)
  pub buffered_first : board_after 3 board load_buffering ≡ board_of 1 (undo 3 0 2 103) lines
  pub buffered_slots : work_after 4 buffering load_buffering ≡ holding (four (dirty 4 3) (clean 1) (dirty 5 3) (dirty 6 3))
  -- a line that is held, in each slot of the set, with an empty one beside it
  pub held_each : (loading (four (clean 3) empty empty empty) 0 ≡ leaves 103 unwritten (four (clean 3) empty empty empty) 0)
      × (loading (four empty (clean 3) empty empty) 0 ≡ leaves 103 unwritten (four empty (clean 3) empty empty) 0)
      × (loading (four empty empty (clean 3) empty) 0 ≡ leaves 103 unwritten (four empty empty (clean 3) empty) 0)
      × (loading (four empty empty empty (clean 3)) 0 ≡ leaves 103 unwritten (four empty empty empty (clean 3)) 0)
  -- in the last one, dirty with tag 2: a store makes the entry 2, 3
  pub last_load : loading (four empty (clean 4) (dirty 5 1) (dirty 3 2)) 2 ≡ leaves 203 unwritten (four empty (clean 4) (dirty 5 1) (dirty 3 2)) 2
  pub last_store : storing (four empty (clean 4) (dirty 5 1) (dirty 3 2)) 2 ≡ logs 2 203 unwritten (four empty (clean 4) (dirty 5 1) stored) 2
  pub last_evict : evicting (four empty (clean 4) (dirty 5 1) (dirty 3 2)) 2 ≡ leaves 1 (written 3) (four empty (clean 4) (dirty 5 1) empty) 1
  -- no entry is due where the last slot has it with tag 3; one is where it is not held, though the slot that it takes has tag 3
  pub last_room : full_log (four empty empty empty (dirty 3 3)) 1 ≡ leaves 0 unwritten (four empty empty empty stored) 1
  pub no_room : full_log (all_dirty 3 3 3 3) 4 ≡ refused status.Room 0
  -- an eviction of a line that is not held does nothing, in a full set and in an empty one
  pub evict_full : evicting (all_dirty 1 1 1 1) 4 ≡ leaves 0 unwritten (all_dirty 1 1 1 1) 4
  pub evict_clean : evicting (four (clean 4) (clean 5) (clean 6) (clean 7)) 0 ≡ leaves 0 unwritten (four (clean 4) (clean 5) (clean 6) (clean 7)) 0
  pub evict_empty : evicting none 0 ≡ leaves 0 unwritten none 0
  -- "address a belongs in any slot of set a mod S/4": of eight slots, 3 mod 8 is slot 3 and 3 mod 2 the set of slots 4 to 7; 2 mod 2 is that of 0 to 3
  pub two_empty : loading (none ++ none) 0 ≡ leaves 103 unwritten (none ++ four (clean 3) empty empty empty) 0
  pub two_held : loading (none ++ four empty empty (dirty 3 1) empty) 1 ≡ leaves 203 unwritten (none ++ four empty empty (dirty 3 1) empty) 1
  pub two_even : loading_of (four (clean 4) (dirty 2 1) empty empty ++ none) 1 2 ≡ leaves 202 unwritten (four (clean 4) (dirty 2 1) empty empty ++ none) 1
  -- .. the other set's empty slots are not taken
  pub two_full : loading (none ++ four (dirty 1 3) (dirty 5 3) (dirty 7 2) (dirty 9 3)) 4
      ≡ leaves 103 (written 7) (none ++ four (dirty 1 3) (dirty 5 3) (clean 3) (dirty 9 3)) 3
  -- .. "and 6 tests that": in slot 3 line 3 is refused to a load of line 2 and to a scan, and in slot 7 line 4
  pub astray : (loading_of (four empty empty empty (clean 3) ++ none) 0 2 ≡ refused status.Slot 0)
      × (scanning (four empty empty empty (clean 3) ++ none) 0 3 ≡ refused status.Slot 0)
      × (loading (none ++ four empty empty empty (clean 4)) 0 ≡ refused status.Slot 0)
  -- "Load, store and evict now test the whole set by 6": each slot of it
  pub six_load : (loading (none ++ four odd empty empty empty) 0 ≡ refused status.Slot 0)
      × (loading (none ++ four (clean 3) odd empty empty) 0 ≡ refused status.Slot 0)
      × (loading (none ++ four (clean 3) empty odd empty) 0 ≡ refused status.Slot 0)
      × (loading (none ++ four (clean 3) empty empty odd) 0 ≡ refused status.Slot 0)
  pub six_store : (storing (none ++ four odd empty empty empty) 0 ≡ refused status.Slot 0)
      × (storing (none ++ four (clean 3) odd empty empty) 0 ≡ refused status.Slot 0)
      × (storing (none ++ four (clean 3) empty odd empty) 0 ≡ refused status.Slot 0)
      × (storing (none ++ four (clean 3) empty empty odd) 0 ≡ refused status.Slot 0)
  pub six_evict : (evicting (none ++ four odd empty empty empty) 0 ≡ refused status.Slot 0)
      × (evicting (none ++ four (clean 3) odd empty empty) 0 ≡ refused status.Slot 0)
      × (evicting (none ++ four (clean 3) empty odd empty) 0 ≡ refused status.Slot 0)
      × (evicting (none ++ four (clean 3) empty empty odd) 0 ≡ refused status.Slot 0)
  -- .. not valid, clean with a tag, a tag that is P, one after s, an address that is N
  pub six_kinds : (loading (four (clean 3) empty empty odd) 0 ≡ refused status.Slot 0)
      × (loading (four (clean 3) empty empty tagged) 0 ≡ refused status.Slot 0)
      × (loading (four (clean 3) empty empty (dirty 5 0)) 1 ≡ refused status.Slot 0)
      × (loading (four (clean 3) empty empty (dirty 5 4)) 1 ≡ refused status.Slot 0)
      × (loading (four (clean 3) empty empty (clean 12)) 0 ≡ refused status.Slot 0)
  -- .. and none of another set, nor a line that is held twice there
  pub six_other : (loading (four odd empty empty empty ++ none) 0 ≡ leaves 103 unwritten (four odd empty empty empty ++ four (clean 3) empty empty empty) 0)
      × (loading (four empty odd empty empty ++ none) 0 ≡ leaves 103 unwritten (four empty odd empty empty ++ four (clean 3) empty empty empty) 0)
      × (loading (four empty empty odd empty ++ none) 0 ≡ leaves 103 unwritten (four empty empty odd empty ++ four (clean 3) empty empty empty) 0)
      × (loading (four empty empty empty odd ++ none) 0 ≡ leaves 103 unwritten (four empty empty empty odd ++ four (clean 3) empty empty empty) 0)
  pub twice_beside : loading (four (clean 4) empty empty (clean 4) ++ none) 0
      ≡ leaves 103 unwritten (four (clean 4) empty empty (clean 4) ++ four (clean 3) empty empty empty) 0
  -- "and a line held twice in it is improper": the line that is asked for, clean or dirty
  pub twice_asked : (loading (four (clean 3) (clean 4) empty (clean 3)) 0 ≡ refused status.Slot 0)
      × (storing (four (clean 3) (clean 4) empty (clean 3)) 0 ≡ refused status.Slot 0)
      × (evicting (four (clean 3) (clean 4) empty (clean 3)) 0 ≡ refused status.Slot 0)
      × (loading (four (clean 3) (dirty 3 1) empty empty) 1 ≡ refused status.Slot 0)
  -- .. another line, in any two slots
  pub twice_other : (loading (four (clean 4) (clean 4) (clean 3) empty) 0 ≡ refused status.Slot 0)
      × (loading (four (clean 4) (clean 3) (clean 4) empty) 0 ≡ refused status.Slot 0)
      × (loading (four (clean 4) empty (clean 3) (clean 4)) 0 ≡ refused status.Slot 0)
      × (loading (four (clean 3) (clean 4) (clean 4) empty) 0 ≡ refused status.Slot 0)
      × (storing (four empty (clean 4) (clean 3) (clean 4)) 0 ≡ refused status.Slot 0)
      × (evicting (four empty empty (dirty 4 1) (clean 4)) 1 ≡ refused status.Slot 0)
  -- "The scan keeps visiting and testing single slots": line 3 twice, and a slot beside it that is not proper
  pub scan_twice : scanning (four (dirty 3 1) (dirty 3 1) empty empty) 2 0 ≡ visits (written 3) (four (cleaned 3) (dirty 3 1) empty empty) 1 1
  pub scan_beside : scanning (four odd (clean 3) empty empty) 0 1 ≡ visits unwritten (four odd (clean 3) empty empty) 0 2
  pub scan_itself : scanning (four odd (clean 3) empty empty) 0 0 ≡ refused status.Slot 0
  -- "5/13's count test refuses 0 if any slot of it is dirty": not the line's own, and each slot of the set
  pub none_but : (loading (four (clean 3) empty (dirty 4 1) empty) 0 ≡ refused status.Regs 0)
      × (storing (four (clean 3) empty (dirty 4 1) empty) 0 ≡ refused status.Regs 0)
      × (evicting (four (clean 3) empty (dirty 4 1) empty) 0 ≡ refused status.Regs 0)
  pub none_each : (loading (four (dirty 4 1) empty empty empty) 0 ≡ refused status.Regs 0)
      × (loading (four empty (dirty 4 1) empty empty) 0 ≡ refused status.Regs 0)
      × (loading (four empty empty (dirty 4 1) empty) 0 ≡ refused status.Regs 0)
      × (loading (four empty empty empty (dirty 4 1)) 0 ≡ refused status.Regs 0)
  -- "S if any is not": not the line's own, which is dirty, and each slot of the set, empty or clean
  pub all_but : (loading (four (dirty 4 1) (dirty 5 1) (dirty 3 1) (clean 6)) 4 ≡ refused status.Regs 0)
      × (storing (four (dirty 4 1) (dirty 5 1) (dirty 3 1) (clean 6)) 4 ≡ refused status.Regs 0)
      × (evicting (four (dirty 4 1) (dirty 5 1) (dirty 3 1) (clean 6)) 4 ≡ refused status.Regs 0)
  pub all_each : (loading (four empty (dirty 5 1) (dirty 6 1) (dirty 7 1)) 4 ≡ refused status.Regs 0)
      × (loading (four (dirty 4 1) (clean 5) (dirty 6 1) (dirty 7 1)) 4 ≡ refused status.Regs 0)
      × (loading (four (dirty 4 1) (dirty 5 1) empty (dirty 7 1)) 4 ≡ refused status.Regs 0)
      × (loading (four (dirty 4 1) (dirty 5 1) (dirty 6 1) (clean 7)) 4 ≡ refused status.Regs 0)
  -- "Right after 6", of the whole set, and 6 behind 5
  pub six_first : (loading (four (dirty 4 1) empty empty odd) 0 ≡ refused status.Slot 0)
      × (loading (four (dirty 3 1) (dirty 3 1) empty empty) 0 ≡ refused status.Slot 0)
      × (loading_of (four odd empty empty empty) 0 12 ≡ refused status.Address 0)
  -- the count is held to this set alone: the other one is dirty with a count of 0, or empty with one of 8
  pub none_beside : loading (all_dirty 1 1 1 1 ++ four (clean 3) empty empty empty) 0
      ≡ leaves 103 unwritten (all_dirty 1 1 1 1 ++ four (clean 3) empty empty empty) 0
  pub all_beside : loading (none ++ four (dirty 1 1) (dirty 3 1) (dirty 5 1) (dirty 7 1)) 8
      ≡ leaves 203 unwritten (none ++ four (dirty 1 1) (dirty 3 1) (dirty 5 1) (dirty 7 1)) 8
  -- .. and by a scan to its slot alone; tag 2 is not its target
  pub scan_none : scanning (four (clean 4) (dirty 5 2) empty empty) 0 0 ≡ visits unwritten (four (clean 4) (dirty 5 2) empty empty) 0 1
  pub scan_all : scanning (four (dirty 4 2) empty empty empty) 4 0 ≡ visits unwritten (four (dirty 4 2) empty empty empty) 4 1
  -- "Make S a multiple of 4, from 4 to 256, else refusal 2."
  pub sizes : (bits_of 4 ≡ report status.Ok 0) × (bits_of 8 ≡ report status.Ok 0) × (bits_of 256 ≡ report status.Ok 0)
  pub no_sizes : (bits_of 0 ≡ report status.Work 0)
      × (bits_of 2 ≡ report status.Work 0)
      × (bits_of 6 ≡ report status.Work 0)
      × (bits_of 63 ≡ report status.Work 0)
      × (bits_of 260 ≡ report status.Work 0)
  pub no_power_up : (powering_up 2 ≡ refused status.Work 0)
      × (powering_up 6 ≡ refused status.Work 0)
      × (powering_up 63 ≡ refused status.Work 0)
      × (powering_up 260 ≡ refused status.Work 0)
  pub no_load : (loading_from 2 ≡ refused status.Work 0)
      × (loading_from 6 ≡ refused status.Work 0)
      × (loading_from 63 ≡ refused status.Work 0)
      × (loading_from 260 ≡ refused status.Work 0)

pub four_ways : FourWays
unfolding width pack unpack encode decode first_from applied each shifted board_after work_after with_buffer formed proper_range proper_word
    first_bit second_bit is_set with_bit marking marks hits ones_of ones place_of buffered_in buffered_proper buffer_proper buffered_marked buffer_marked
    pushed entry_stores flushed flush_stores flushed_buffer
    slots.set_of slots.proper_tag slots.proper_full slots.proper_slot slots.proper_at slots.holds sets.places_of sets.proper_set sets.victim_of sets.spot_of
    slots.zeroed slots.filled slots.dirtied slots.cleaned slots.entry_due slots.undo_due
    steps.flushing_if steps.writing_out steps.writing_back steps.emptying steps.line_in steps.bringing steps.entry_for steps.logged steps.storing_held
    steps.loading steps.storing steps.evicting steps.cleaning steps.visiting
    view_of good_sizes good_control good_shape good_slots good_work proper_epoch proper_counts waits proper_pass proper_registers miscounted good_buffer good_filter
    memories_checked power_up_checked running_checked ready_checked named_checked line_checked store_checked scan_checked answer_of
    calls.load_at calls.load_outcome calls.store_at calls.store_outcome calls.evict_at calls.evict_outcome
    calls.scan_at calls.scan_outcome calls.power_up_verdict calls.filter_bits_verdict calls.filter_bits_report
four_ways =
    record {
      empty_behind = refl;
      empty_last = refl;
      empty_first = refl;
      empty_stored = refl;
      clean_behind = refl;
      clean_first = refl;
      clean_stored = refl;
      smallest_first = refl;
      smallest_second = refl;
      smallest_third = refl;
      smallest_last = refl;
      equal_four = refl;
      equal_two = refl;
      equal_last = refl;
      over_dirty = refl;
      over_dirty_ok = refl;
      over_dirty_board = refl;
      over_dirty_cut = refl;
      buffered_ok = refl;
      buffered_board = refl;
      buffered_first = refl;
      buffered_slots = refl;
      held_each = (refl, refl, refl, refl);
      last_load = refl;
      last_store = refl;
      last_evict = refl;
      last_room = refl;
      no_room = refl;
      evict_full = refl;
      evict_clean = refl;
      evict_empty = refl;
      two_empty = refl;
      two_held = refl;
      two_even = refl;
      two_full = refl;
      astray = (refl, refl, refl);
      six_load = (refl, refl, refl, refl);
      six_store = (refl, refl, refl, refl);
      six_evict = (refl, refl, refl, refl);
      six_kinds = (refl, refl, refl, refl, refl);
      six_other = (refl, refl, refl, refl);
      twice_beside = refl;
      twice_asked = (refl, refl, refl, refl);
      twice_other = (refl, refl, refl, refl, refl, refl);
      scan_twice = refl;
      scan_beside = refl;
      scan_itself = refl;
      none_but = (refl, refl, refl);
      none_each = (refl, refl, refl, refl);
      all_but = (refl, refl, refl);
      all_each = (refl, refl, refl, refl);
      six_first = (refl, refl, refl);
      none_beside = refl;
      all_beside = refl;
      scan_none = refl;
      scan_all = refl;
      sizes = (refl, refl, refl);
      no_sizes = (refl, refl, refl, refl, refl);
      no_power_up = (refl, refl, refl, refl);
      no_load = (refl, refl, refl, refl);
    }
