-- "Checked by proof, W1 to W12": the paper's worked examples, as rows of one table, and behind them a row for each of its traps.
use Rattle.std.specs.Prelude.{ℕ, ◌+◌, ◌-◌, ◌*◌, ◌^◌, ◌≡◌, refl, true, false, Some, None, Ok, Err, [], ◌∷◌, ◌++◌, replicate, set}
use Rattle.std.specs.Int.Count.{ones, ones_in, ones-ones}
use Rattle.base.specs.Walk.{first_from}
use Rattle.board.specs.Stores.{applied, each, shifted}
use Rattle.layout.specs.Fields.{width, pack, unpack, encode, decode}
use Rattle.layout.specs.Limits.{last_epoch}
use Rattle.layout.specs.Words.{encode_control, encode_shape, encode_entry, encode_slot, formed}
use Rattle.status.specs.Numbers.{number_of}
use Rattle.ranges.specs.Ranges.{covers, proper_range}
use Rattle.undo.specs.Entries.{range_of, proper_word, proper_entry}
use Rattle.undo.specs.Recovery.{older_till, proper_at, first_improper, restore_stores, restore_turn}
use Rattle.undo.specs.Log.{place_of, entry_in, old_in, buffered_in, buffered_proper, buffer_proper}
use Rattle.undo.specs.Log.{expired, dropped, advance_stores}
use Rattle.undo.specs.Filter.{first_bit, second_bit, is_set, with_bit, marking, marks, hits, ones_of}
use Rattle.undo.specs.Log.{buffered_marked, buffer_marked, pushed, entry_stores, flushed, flush_stores, flushed_buffer, recover_stores}
use Rattle.slots.specs.Slots as slots
use Rattle.slots.specs.Sets as sets
use Rattle.layout.specs.Memory.{with_buffer, shape_for, formatted}
use Rattle.steps.specs.Effects.{flushing_if, writing_out, writing_back, emptying, entry_for, logged, storing_held}
use Rattle.slots.specs.Slots.{entry_due, undo_due}
use Rattle.steps.specs.Effects as steps
use Rattle.steps.specs.Effects.{bringing, cleaning, visiting, persisting}
use Rattle.checks.specs.Registers.{all_zero, given}
use Rattle.checks.specs.View.{view_of, good_sizes, good_control, good_shape, good_slots, good_work, proper_epoch, proper_counts, waits, proper_pass, proper_registers, miscounted, good_buffer, good_filter}
use Rattle.checks.specs.Refusals.{memories_checked, power_up_checked, running_checked, ready_checked, named_checked, line_checked, store_checked, commit_checked, scan_checked}
use Rattle.picl.specs.Answers.{cut_off, answer_of}
use Rattle.board.specs.Verdict.{refused, board_after, work_after}
use Rattle.picl.specs.Calls.{verdict_of, report, tally_report, filter_bits_verdict, filter_bits_report, format_report, format_after, load_at, load_outcome}
use Rattle.picl.specs.Calls.{store_at, store_outcome, evict_at, evict_outcome}
use Rattle.picl.specs.Calls.{scan_at, scan_outcome, power_up_outcome, power_up_verdict}
use Rattle.picl.specs.Calls as calls
use Rattle.layout.specs.Bytes.{bytes_of, word_of}
use Rattle.status.specs.declared.Status.TheVariants as status
use Rattle.status.specs.Names.{bytes, row_of, name_of, with_name}
use Rattle.benchboard.specs.Sizes.{bench_sized}
use Rattle.benchboard.specs.Calls.{started}
use Rattle.records.specs.declared.Call.TheVariants.{Store}
use Rattle.records.specs.Records.{load_kind, store_kind, commit_kind, scan_kind, evict_kind, has_place, call_of, first_word, written, words_reading, reading}
use Rattle.text.specs.Text.{decimal_places, decimal_of, numbers_text, name_text}
use Rattle.trace.specs.Run.{plus, begun, called, taken, turn, after, ran, line_text, printed}
use Rattle.worked.specs.Recorded.{zeros, wrote, bad, listing, four_kinds, one_pass, bad_record}
use Rattle.worked.specs.Bench.{control, entry, slot, clean, dirty, undo, twice, board, work, quiet, unmarked, filter, marked1, marked3, marked13}
use Rattle.worked.specs.Bench.{around, ending, ending_last, power_up, RestoresAs, store, evict, commit, scan, still, ok, improper}
use Rattle.worked.specs.Filtered.{buffer, full, store14, commit14, scan14, wide, evict_shared}
use Rattle.worked.specs.FourWays.{FourWays, four_ways}
use Rattle.worked.specs.Conversions.{Conversions, conversions}
use Rattle.worked.specs.FortyBits.{FortyBits, forty_bits}
use Rattle.worked.specs.Hex.{Exported, exported}
use Rattle.worked.specs.Imports.{FromHex, from_hex as read_from_hex}
use Rattle.worked.specs.Passes.{Passes, passes}
use Rattle.worked.specs.Replayed.{Replayed, replayed}
use Rattle.worked.specs.Counted.{holding, loading, storing, evicting, scanning, committing, bad_entry, before7, before11}

pub record Worked : Type 0 where
  -- W1 to W4 "are worked anew" by 9/13. "W1 entry 5, 1, 2": address 5, ValidTill 2, span 1
  pub w1 : encode_entry (entry 5 1 2) ≡ 0x0005000000000201
  -- "W2 control P 1, start 1, length 1"
  pub w2 : encode_control (control 1 1 1) ≡ 0x0000000001001001
  -- "W3 N 4, L 8"
  pub w3 : encode_shape (shape_for 4 8) ≡ 0x0000010000400008
  -- "W4 slot valid, dirty, address 3, tag 2"
  pub w4 : encode_slot (slot true true 3 2) ≡ 0xC000C00000000080
  -- "W5 range 1, 3 covers 1 and 2, not 0, not 3."
  pub w5_covers : (covers (range_of (entry 3 1 3)) 1 ≡ true) × (covers (range_of (entry 3 1 3)) 2 ≡ true)
  pub w5_not : (covers (range_of (entry 3 1 3)) 0 ≡ false) × (covers (range_of (entry 3 1 3)) 3 ≡ false)
  -- .. so a power-up with P 0 leaves the line, which is 7. With P 1 and 2 it stores the newer entry's data to it, and then the older's. With P 3 such
  -- an entry is refused: "P < ValidTill"
  pub w5_restores : RestoresAs 0 1 7 × RestoresAs 1 3 4 × RestoresAs 2 3 4
  pub w5_refused : answer_of 3 all_zero (power_up (control 3 7 2) around) ≡ improper 0
  -- "W6 P = 1 and, oldest first, 0, 2 data 4 and 0, 2 data 6 for one line: it wakes as 4."
  pub w6_ok : answer_of 3 all_zero (power_up (control 1 0 2) twice) ≡ ok 0 3 (given 2 0 0 0 0)
  pub w6_board : board_after 3 (board (control 1 0 2) twice 7) (power_up (control 1 0 2) twice) ≡ board (control 1 0 0) twice 4
  -- "W7 clean store at P 0, s 2 gives 0, 2."
  pub w7 : store 0 2 clean ≡ still (given 2 1 0 1 0) (work (dirty 2) 9 (undo 3 0 2 7) marked3)
  -- "W8 tag 1 at s 3 gives 1, 3."
  pub w8 : store 0 3 (dirty 1) ≡ still (given 3 1 0 1 0) (work (dirty 3) 9 (undo 3 1 3 7) marked3)
  -- "W9 tag 3 at s 3: none."
  pub w9 : store 0 3 (dirty 3) ≡ still (given 3 0 0 1 0) (work (dirty 3) 9 [] unmarked)
  -- "W10 eviction of a dirty line with b = 1 and its own entry buffered: 4 stores; allowance 4 ok."
  pub w10_ok : answer_of 4 (given 2 1 0 1 0) (evict (undo 3 0 2 7) marked3) ≡ ok 1 4 (given 2 0 0 0 0)
  pub w10_board : board_after 4 (quiet 0) (evict (undo 3 0 2 7) marked3) ≡ board (control 0 0 1) (undo 3 0 2 7) 9
  -- "W11 allowance 3: cut, log length up by one, line unchanged."
  pub w11_cut : answer_of 3 (given 2 1 0 1 0) (evict (undo 3 0 2 7) marked3) ≡ cut_off 3
  pub w11_board : board_after 3 (quiet 0) (evict (undo 3 0 2 7) marked3) ≡ board (control 0 0 1) (undo 3 0 2 7) 7
  -- "W12 s − P = 15 commits; 16 answers 9."
  pub w12_ok : commit 1 16 ≡ still (given 17 0 0 0 0) (work clean 7 [] unmarked)
  pub w12_waits : number_of (answer_of 0 (given 17 0 0 0 0) (commit 1 17)).status ≡ 9
  -- "A scan's write-out is an in-place store too: it must flush a matching buffer first."
  pub scan_flushes : answer_of 4 (given 2 1 1 1 1) (scan 1) ≡ ok 0 4 (given 2 0 2 0 1)
  pub scan_flushes_first : board_after 3 (quiet 0) (scan 1) ≡ board (control 0 0 1) (undo 3 0 1 7) 7
  -- "The control word stored before the entries it counts."
  pub entries_first : board_after 2 (quiet 0) (evict (undo 3 0 2 7) marked3) ≡ board (control 0 0 0) (undo 3 0 2 7) 7
  -- "Clearing the log before the last line is restored, or not at all"
  pub lines_first : board_after 2 (board (control 1 0 2) twice 7) (power_up (control 1 0 2) twice) ≡ board (control 1 0 2) twice 4
  -- "ValidFrom 0 for a clean line instead of P."
  pub valid_from : store 1 2 clean ≡ still (given 2 1 0 1 0) (work (dirty 2) 9 (undo 3 1 2 7) marked3)
  -- "Then the control word: same P, start 0, length 0, always stored."
  pub always_stored : answer_of 1 all_zero (power_up (control 1 0 0) []) ≡ ok 0 1 (given 2 0 0 0 0)
  -- "if dirty and tagged with the target": a line of another tag is left alone
  pub other_tag : scan 2 ≡ still (given 2 1 2 1 1) (work (dirty 2) 9 (undo 3 0 2 7) marked3)
  -- 3/13: "bit a mod 4,096 and bit (a × 40503 mod 65,536) divided by 16, rounded down": 4,095 × 40503 = 2,530 × 65,536 + 53,705, and
  -- 65,535 × 40503 = 40,502 × 65,536 + 25,033, and 32,768 × 40503 = 20,251 × 65,536 + 32,768
  pub bits_3 : (first_bit 3 ≡ 3) × (second_bit 3 ≡ 3498)
  pub bits_4095 : (first_bit 4095 ≡ 4095) × (second_bit 4095 ≡ 3356)
  pub bits_65535 : (first_bit 65535 ≡ 4095) × (second_bit 65535 ≡ 1564)
  pub bits_32768 : (first_bit 32768 ≡ 0) × (second_bit 32768 ≡ 2048)
  -- an address whose two bits are one, and two that share it, by their second and by their first
  pub bits_one : (first_bit 0 ≡ 0) × (second_bit 0 ≡ 0)
  pub bits_shared : (second_bit 233 ≡ 0) × (first_bit 4096 ≡ 0)
  -- "Bit 0 is the most significant bit of the first word": the corners of words and of the filter
  pub corner_0 : with_bit (buffer 0 0) 0 ≡ buffer 0 0x8000000000000000
  pub corner_63 : with_bit (buffer 0 0) 63 ≡ buffer 0 1
  pub corner_64 : with_bit (buffer 0 0) 64 ≡ buffer 1 0x8000000000000000
  pub corner_4095 : with_bit (buffer 0 0) 4095 ≡ buffer 63 1
  pub corner_read : (is_set (buffer 63 1) 4095 ≡ true) × (is_set (buffer 63 1) 4094 ≡ false)
  -- "A write-out flushes exactly when b > 0 and both bits of its address are set": not where line 1 alone is buffered ..
  pub no_flush : answer_of 1 (given 2 1 0 1 0) (evict (undo 1 0 2 7) marked1) ≡ ok 1 1 (given 2 1 0 0 0)
  -- .. nor with one bit, nor where b is 0 ..
  pub one_bit : answer_of 1 (given 2 1 0 1 0) (evict (undo 1 0 2 7) (set marked13 54 0)) ≡ ok 1 1 (given 2 1 0 0 0)
  pub none_buffered : answer_of 1 (given 2 0 0 1 0) (verdict_of (quiet 0) (work (dirty 2) 9 [] full) (given 2 0 0 1 0) (calls.evict 3)) ≡ ok 1 1 (given 2 0 0 0 0)
  -- .. but also where other lines have set them: a false hit
  pub false_hit : answer_of 4 (given 2 1 0 1 0) (evict (undo 1 0 2 7) marked13) ≡ ok 1 4 (given 2 0 0 0 0)
  pub false_hit_board : board_after 4 (quiet 0) (evict (undo 1 0 2 7) marked13) ≡ board (control 0 0 1) (undo 1 0 2 7) 9
  pub false_hit_shared : board_after 4 (wide 0 [] 7) evict_shared ≡ wide 1 (undo 233 0 2 5) 9
  -- "The filter is cleared at each flush with b > 0."
  pub flush_clears : work_after 4 (work (dirty 2) 9 (undo 3 0 2 7) marked3) (evict (undo 3 0 2 7) marked3) ≡ replicate (2 * 4 + 128) 0
  pub flush_keeps : work_after 1 (work (dirty 2) 9 [] full) (verdict_of (quiet 0) (work (dirty 2) 9 [] full) (given 2 0 0 1 0) (calls.evict 3))
      ≡ replicate (2 * 4 + 64) 0 ++ full
  -- "14 filter, a buffered entry with either bit unset"
  pub lacks_first : evict (undo 3 0 2 7) (filter 54 0x200000) ≡ refused status.Filter 0
  pub lacks_second : evict (undo 3 0 2 7) (filter 0 0x1000000000000000) ≡ refused status.Filter 0
  -- "tested right after 7": all of 7 precedes any of 14; and 14 precedes 8, 9, 10 and 11
  pub seven_first : verdict_of (quiet 0) (work (dirty 2) 9 (undo 3 0 2 7 ++ undo 3 2 2 7) unmarked) (given 2 2 0 1 0) (calls.evict 3) ≡ refused status.Buffer 0
  pub before_room : store14 ≡ refused status.Filter 0
  pub before_waiting : commit14 0 16 ≡ refused status.Filter 0
  pub before_last : commit14 (last_epoch - 1) last_epoch ≡ refused status.Filter 0
  pub before_none : scan14 ≡ refused status.Filter 0
  -- "A status question gives the number of filter bits set, and refuses only by number 2"
  pub bits_of_three : filter_bits_report (work clean 7 [] (set (filter 0 1) 63 3)) ≡ report status.Ok 3
  pub bits_of_all : filter_bits_report (work clean 7 [] full) ≡ report status.Ok 4096
  pub bits_refused : filter_bits_report (replicate 137 0) ≡ report status.Work 0
  -- a work memory of 2S + 64 words, made for 36 slots before, is one of 4
  pub bits_of_old : filter_bits_report (replicate (2 * 36 + 64) 0) ≡ report status.Ok 0
  -- 2/13: "A log entry is now proper only if ValidTill ≤ P + 16 as well." P is 1: 17 is taken, and the line gets what the oldest has ..
  pub till_16 : answer_of 3 all_zero (power_up (control 1 0 2) (ending 2 17)) ≡ ok 0 3 (given 2 0 0 0 0)
  pub till_16_board : board_after 3 (board (control 1 0 2) (ending 2 17) 7) (power_up (control 1 0 2) (ending 2 17)) ≡ board (control 1 0 0) (ending 2 17) 4
  -- .. 18 is refused as 3, with its place as value, and so is "a ValidTill 4,000 above P"
  pub till_17 : answer_of 3 all_zero (power_up (control 1 0 2) (ending 2 18)) ≡ improper 1
  pub till_17_board : board_after 3 (board (control 1 0 2) (ending 2 18) 7) (power_up (control 1 0 2) (ending 2 18)) ≡ board (control 1 0 2) (ending 2 18) 7
  pub till_4000 : answer_of 3 all_zero (power_up (control 1 0 2) (ending 2 4001)) ≡ improper 1
  -- the bound is P's, and not the next older entry's: 18 is 1 above that one's 17, and 17 above P
  pub till_older : answer_of 3 all_zero (power_up (control 1 0 2) (ending 17 18)) ≡ improper 1
  -- near the last epoch: where P + 16 is no epoch, and where it is the last, nothing that has a place in the field is refused
  pub till_last : answer_of 2 all_zero (power_up (control (last_epoch - 1) 0 1) ending_last) ≡ ok 0 2 (given last_epoch 0 0 0 0)
  pub till_last_16 : answer_of 2 all_zero (power_up (control (last_epoch - 16) 0 1) ending_last) ≡ ok 0 2 (given (last_epoch - 15) 0 0 0 0)
  pub till_last_17 : answer_of 2 all_zero (power_up (control (last_epoch - 17) 0 1) ending_last) ≡ improper 0
  -- Recorded traces: "two words, most significant byte first: kind 3 bits .., address 16, zero 45; then the value"
  pub record_store : written store_kind 5 9 ≡ wrote (0x20 ∷ 0x00 ∷ 0xA0 ∷ zeros 12 ++ (9 ∷ []))
  pub record_evict : written evict_kind 65535 0 ≡ wrote (0x9F ∷ 0xFF ∷ 0xE0 ∷ zeros 13)
  pub record_scan : written scan_kind 0 0 ≡ wrote (0x60 ∷ zeros 15)
  pub record_back : reading (0x20 ∷ 0x00 ∷ 0xA0 ∷ zeros 12 ++ (9 ∷ [])) ≡ Ok (Some (Store 5 9))
  -- a byte behind a record's sixteen is none of it
  pub record_behind : reading (0x20 ∷ 0x00 ∷ 0xA0 ∷ zeros 12 ++ (9 ∷ 0xA0 ∷ [])) ≡ Ok (Some (Store 5 9))
  -- "from the writer, a kind, address or value with no place in it"
  pub no_kind : written 5 0 0 ≡ Err status.Trace
  pub no_address : (written load_kind 65536 0 ≡ Err status.Trace) × (written commit_kind 1 0 ≡ Err status.Trace)
  pub no_value : written load_kind 5 9 ≡ Err status.Trace
  -- "a record that breaks this layout": kind 5, the last and the first of the 45 bits, an address with commit, a value with load
  pub bad_kind : reading (0xA0 ∷ zeros 15) ≡ bad
  pub bad_bits : (reading (zeros 7 ++ (1 ∷ zeros 8)) ≡ bad) × (reading (0x00 ∷ 0x00 ∷ 0x10 ∷ zeros 13) ≡ bad)
  pub bad_address : reading (0x40 ∷ 0x00 ∷ 0x20 ∷ zeros 13) ≡ bad
  pub bad_value : reading (zeros 15 ++ (9 ∷ [])) ≡ bad
  -- "or ends early"; no bytes are the end
  pub early : reading (zeros 15) ≡ bad
  pub at_end : reading [] ≡ Ok None
  -- "each total is the sum modulo 2^64"
  pub wraps : plus (2 ^ 64 - 1) 3 ≡ 2
  -- the paper's replay as a trace, with no `n` and no `p`: its last scan makes the listing's 6 stores
  pub listing_line : printed 4 8 4 listing ≡ bytes "ok 0 0 0 6\n"
  -- "the totals of board stores made by loads, stores, evictions and scans", each another number
  pub totals_line : printed 8 8 4 (four_kinds ++ one_pass) ≡ bytes "ok 10 4 1 7\n"
  -- "tested before its call and ending the run": the calls before it are counted, those behind it are not made
  pub trace_line : printed 8 8 4 (four_kinds ++ (bad_record ++ one_pass)) ≡ bytes "trace 10 4 1 0\n"
  -- 4/13: "every number gives its old row without the spaces", the first, one of each length, and those that have joined since
  pub row_slot : (row_of 6 ≡ bytes "slot    ") × (name_of 6 ≡ bytes "slot")
  pub named_0 : name_of 0 ≡ bytes "ok"
  pub named_1 : name_of 1 ≡ bytes "shape"
  pub named_9 : name_of 9 ≡ bytes "waiting"
  pub named_12 : name_of 12 ≡ bytes "cut"
  pub named_14 : name_of 14 ≡ bytes "filter"
  pub named_15 : (name_of 15 ≡ bytes "target") × (number_of status.Target ≡ 15)
  pub named_16 : (name_of 16 ≡ bytes "short") × (number_of status.Short ≡ 16)
  pub named_17 : (name_of 17 ≡ bytes "past") × (number_of status.Past ≡ 17)
  pub named_18 : (name_of 18 ≡ bytes "logheld") × (number_of status.LogHeld ≡ 18)
  -- any other, the first behind the last, the number of an array too short, and the largest
  pub unnamed : (name_of 19 ≡ []) × (name_of 255 ≡ []) × (name_of (2 ^ 64 - 1) ≡ [])
  -- a text of four bytes, of three and of two for the three letters of `cut`; none are needed for no name, and eight, room for any, stay as they are
  pub text_behind : with_name (name_of 12) (1 ∷ 2 ∷ 3 ∷ 4 ∷ []) ≡ bytes "cut" ++ (4 ∷ [])
  pub text_filled : with_name (name_of 12) (1 ∷ 2 ∷ 3 ∷ []) ≡ bytes "cut"
  pub text_too_short : with_name (name_of 12) (1 ∷ 2 ∷ []) ≡ 1 ∷ 2 ∷ []
  pub text_unnamed : (with_name (name_of 255) [] ≡ []) × (with_name (name_of 255) (replicate 8 1) ≡ replicate 8 1)
  -- 5/13: "Registers are also improper when the count exceeds S": 5 does, 4 does not
  pub count_beyond : committing clean 5 ≡ refused status.Regs 0
  pub count_all : committing clean 4 ≡ still (given 3 0 0 4 0) (holding clean)
  -- "a count of 0 with the visited slot dirty", in each call that has 6
  pub none_load : loading (dirty 2) 0 3 ≡ refused status.Regs 0
  pub none_store : storing (dirty 2) 0 3 ≡ refused status.Regs 0
  pub none_evict : evicting (dirty 2) 0 3 ≡ refused status.Regs 0
  pub none_scan : scanning (dirty 1) 0 1 ≡ refused status.Regs 0
  -- where the line is another's: line 1 belongs in the set too
  pub none_other : (loading (dirty 2) 0 1 ≡ refused status.Regs 0) × (evicting (dirty 2) 0 1 ≡ refused status.Regs 0)
  -- "or of S with it not": a line that is clean, or one that is not held; a scan's slot that is clean, or empty
  pub all_load : (loading clean 4 3 ≡ refused status.Regs 0) × (loading clean 4 2 ≡ refused status.Regs 0)
  pub all_store : (storing clean 4 3 ≡ refused status.Regs 0) × (storing clean 4 2 ≡ refused status.Regs 0)
  pub all_evict : (evicting clean 4 3 ≡ refused status.Regs 0) × (evicting clean 4 2 ≡ refused status.Regs 0)
  pub all_scan : (scanning clean 4 1 ≡ refused status.Regs 0) × (scanning clean 4 0 ≡ refused status.Regs 0)
  -- "Right after 6": 5 and 6 come first, 7 and 11 later; a tag of 3 is after the running epoch
  pub five_first : loading (dirty 2) 0 5 ≡ refused status.Address 0
  pub six_first : (loading (dirty 3) 0 3 ≡ refused status.Slot 0) × (scanning (dirty 3) 0 1 ≡ refused status.Slot 0)
  pub four_first : (before7 ≡ refused status.Regs 0) × (before11 ≡ refused status.Regs 0)
  -- a scan's last step visits no slot, and commit none
  pub no_visit : answer_of 1 (given 2 0 4 0 1) (scanning (dirty 2) 0 4) ≡ ok 1 1 (given 2 0 0 0 0)
  pub no_visit_commit : committing (dirty 2) 0 ≡ still (given 3 0 0 0 0) (holding (dirty 2))
  -- a wrong count goes on as wrong; what a fill makes of the count stands with 6/13
  pub wrong_on : answer_of 1 (given 2 0 0 2 0) (evicting (dirty 2) 2 3) ≡ ok 1 1 (given 2 0 0 1 0)
  -- "The tally is then read from the registers", and "refuses as commit does up to 4", so not by 7
  pub tally_told : (tally_report (quiet 0) (holding (dirty 2)) (given 2 0 0 1 0) ≡ report status.Ok 1) × (tally_report (quiet 0) bad_entry (given 2 1 0 1 0) ≡ report status.Ok 1)
  pub tally_wrong : tally_report (quiet 0) (holding (dirty 2)) (given 2 0 0 2 0) ≡ report status.Ok 2
  pub tally_1 : tally_report [] (replicate 137 0) all_zero ≡ report status.Shape 0
  pub tally_2 : tally_report (quiet 0) (replicate 137 0) all_zero ≡ report status.Work 0
  pub tally_4 : (tally_report (quiet 0) (holding clean) all_zero ≡ report status.Regs 0) × (tally_report (quiet 0) (holding clean) (given 2 0 0 5 0) ≡ report status.Regs 0)
  -- 6/13: sets of four slots
  pub in_sets : FourWays
  -- 7/13: the lines as Intel HEX
  pub in_hex : Exported
  -- 8/13: passes of several epochs
  pub in_passes : Passes
  -- 9/13: epochs of 40 bits
  pub in_forty_bits : FortyBits
  pub in_conversions : Conversions
  -- 10/13: lines from Intel HEX
  pub from_hex : FromHex
  -- "Replay on the bench": whole scripts
  pub in_replay : Replayed

-- a filter of which every word has all its bits
all_counted : (word : ℕ) → ones word ≡ 64 → filter_bits_report (work clean 7 [] (replicate 64 word)) ≡ report status.Ok 4096
unfolding filter_bits_report filter_bits_verdict good_slots good_work answer_of ones_of
all_counted word e = rw e

pub worked : Worked
unfolding width pack unpack encode decode
    first_from applied each shifted covers formed proper_range proper_word proper_entry place_of entry_in old_in older_till proper_at first_improper buffered_in
    buffered_proper buffer_proper first_bit second_bit is_set with_bit marking marks hits ones_of ones ones_in buffered_marked buffer_marked pushed entry_stores flushed flush_stores flushed_buffer restore_stores restore_turn recover_stores
    slots.set_of slots.proper_tag slots.proper_full slots.proper_slot slots.proper_at slots.holds sets.places_of sets.proper_set sets.victim_of sets.spot_of slots.zeroed
    slots.dirtied slots.cleaned with_buffer flushing_if writing_out writing_back emptying slots.entry_due slots.undo_due entry_for logged storing_held
    steps.loading steps.storing steps.evicting steps.line_in cleaning visiting view_of good_sizes good_control good_shape good_slots good_work proper_epoch proper_counts
    waits proper_pass proper_registers miscounted good_buffer good_filter memories_checked power_up_checked running_checked ready_checked named_checked line_checked store_checked commit_checked scan_checked answer_of board_after
    store_at store_outcome evict_at evict_outcome scan_at scan_outcome
    power_up_outcome power_up_verdict
    bytes_of word_of has_place call_of first_word written words_reading reading
    tally_report filter_bits_verdict filter_bits_report format_report format_after load_at load_outcome work_after bringing slots.filled persisting expired dropped advance_stores
    bench_sized formatted started begun called taken turn after ran line_text name_text row_of name_of with_name numbers_text decimal_of decimal_places
worked =
    record {
      w1 = refl;
      w2 = refl;
      w3 = refl;
      w4 = refl;
      w5_covers = (refl, refl);
      w5_not = (refl, refl);
      w5_restores = ((refl, refl), (refl, refl), (refl, refl));
      w5_refused = refl;
      w6_ok = refl;
      w6_board = refl;
      w7 = refl;
      w8 = refl;
      w9 = refl;
      w10_ok = refl;
      w10_board = refl;
      w11_cut = refl;
      w11_board = refl;
      w12_ok = refl;
      w12_waits = refl;
      scan_flushes = refl;
      scan_flushes_first = refl;
      entries_first = refl;
      lines_first = refl;
      valid_from = refl;
      always_stored = refl;
      other_tag = refl;
      bits_3 = (refl, refl);
      bits_4095 = (refl, refl);
      bits_65535 = (refl, refl);
      bits_32768 = (refl, refl);
      bits_one = (refl, refl);
      bits_shared = (refl, refl);
      corner_0 = refl;
      corner_63 = refl;
      corner_64 = refl;
      corner_4095 = refl;
      corner_read = (refl, refl);
      no_flush = refl;
      one_bit = refl;
      none_buffered = refl;
      false_hit = refl;
      false_hit_board = refl;
      false_hit_shared = refl;
      flush_clears = refl;
      flush_keeps = refl;
      lacks_first = refl;
      lacks_second = refl;
      seven_first = refl;
      before_room = refl;
      before_waiting = refl;
      before_last = refl;
      before_none = refl;
      bits_of_three = refl;
      bits_of_all = all_counted 0xFFFFFFFFFFFFFFFF (ones-ones 64);
      bits_refused = refl;
      bits_of_old = refl;
      till_16 = refl;
      till_16_board = refl;
      till_17 = refl;
      till_17_board = refl;
      till_4000 = refl;
      till_older = refl;
      till_last = refl;
      till_last_16 = refl;
      till_last_17 = refl;
      record_store = refl;
      record_evict = refl;
      record_scan = refl;
      record_back = refl;
      record_behind = refl;
      no_kind = refl;
      no_address = (refl, refl);
      no_value = refl;
      bad_kind = refl;
      bad_bits = (refl, refl);
      bad_address = refl;
      bad_value = refl;
      early = refl;
      at_end = refl;
      wraps = refl;
      listing_line = refl;
      totals_line = refl;
      trace_line = refl;
      row_slot = (refl, refl);
      named_0 = refl;
      named_1 = refl;
      named_9 = refl;
      named_12 = refl;
      named_14 = refl;
      named_15 = (refl, refl);
      named_16 = (refl, refl);
      named_17 = (refl, refl);
      named_18 = (refl, refl);
      unnamed = (refl, refl, refl);
      text_behind = refl;
      text_filled = refl;
      text_too_short = refl;
      text_unnamed = (refl, refl);
      count_beyond = refl;
      count_all = refl;
      none_load = refl;
      none_store = refl;
      none_evict = refl;
      none_scan = refl;
      none_other = (refl, refl);
      all_load = (refl, refl);
      all_store = (refl, refl);
      all_evict = (refl, refl);
      all_scan = (refl, refl);
      five_first = refl;
      six_first = (refl, refl);
      four_first = (refl, refl);
      no_visit = refl;
      no_visit_commit = refl;
      wrong_on = refl;
      tally_told = (refl, refl);
      tally_wrong = refl;
      tally_1 = refl;
      tally_2 = refl;
      tally_4 = (refl, refl);
      in_sets = four_ways;
      in_hex = exported;
      in_passes = passes;
      in_forty_bits = forty_bits;
      in_conversions = conversions;
      from_hex = read_from_hex;
      in_replay = replayed;
    }
