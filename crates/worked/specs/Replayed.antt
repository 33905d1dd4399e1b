-- "Replay on the bench": scripts, from their bytes to the printed bytes.
use Prim.Native.String.{String}
use Rattle.std.specs.Prelude.{◌≡◌, refl}
use Rattle.base.specs.Walk.{first_from}
use Rattle.board.specs.Stores.{applied, each, shifted}
use Rattle.layout.specs.Fields.{width, pack, unpack, encode, decode}
use Rattle.ranges.specs.Ranges.{covers, proper_range}
use Rattle.layout.specs.Words.{formed}
use Rattle.undo.specs.Entries.{proper_word, proper_entry}
use Rattle.undo.specs.Recovery.{older_till, proper_at, first_improper, restore_stores, restore_turn}
use Rattle.undo.specs.Log.{place_of, entry_in, old_in, buffered_in, buffered_proper, buffer_proper}
use Rattle.undo.specs.Log.{expired, dropped, advance_stores}
use Rattle.undo.specs.Filter.{first_bit, second_bit, is_set, with_bit, marking, marks, hits}
use Rattle.undo.specs.Log.{buffered_marked, buffer_marked, pushed, entry_stores, flushed, flush_stores, flushed_buffer, recover_stores}
use Rattle.slots.specs.Slots as slots
use Rattle.slots.specs.Sets as sets
use Rattle.layout.specs.Memory.{with_buffer, formatted}
use Rattle.steps.specs.Effects.{flushing_if, writing_out, writing_back, emptying, entry_for, logged, storing_held}
use Rattle.steps.specs.Effects as steps
use Rattle.steps.specs.Effects.{bringing, cleaning, visiting, persisting}
use Rattle.checks.specs.View.{view_of, good_sizes, good_control, good_shape, good_slots, good_work, proper_epoch, proper_counts, waits, proper_pass, proper_registers, miscounted, good_buffer, good_filter}
use Rattle.checks.specs.Refusals.{memories_checked, power_up_checked, running_checked, ready_checked, named_checked, line_checked, store_checked, commit_checked, scan_checked}
use Rattle.picl.specs.Answers.{answer_of}
use Rattle.board.specs.Verdict.{board_after, work_after}
use Rattle.picl.specs.Calls.{format_report, format_after, load_at, load_outcome}
use Rattle.picl.specs.Calls.{store_at, store_outcome, evict_at, evict_outcome}
use Rattle.picl.specs.Calls.{scan_at, scan_outcome, power_up_outcome, power_up_verdict}
use Rattle.status.specs.Names.{bytes, row_of, name_of}
use Rattle.benchboard.specs.Sizes.{bench_sized}
use Rattle.benchboard.specs.Calls.{started}
use Rattle.text.specs.Text.{decimal_places, decimal_of, numbers_text, name_text}
use Rattle.script.specs.Syntax.{fields, every, is_number, command_with, command_in, command_of}
use Rattle.replay.specs.Calls.{requested, within}
use Rattle.replay.specs.Bench.{allowed_step, allowing, running, requesting, starting, formatting, performed}
use Rattle.transcript.specs.Text as transcript
use Rattle.transcript.specs.Script.{lines_of, effect_of, lines_text, printed}

-- a script, and what it prints
abbrev pub Prints : (script text : String) → Type 0
Prints script text = printed (bytes script) ≡ bytes text

pub record Replayed : Type 0 where
  -- the paper's listing, with "S 4, with two more `a` lines before the one that stores"
  pub listing : Prints
      "n 4 8 4\ns 0 7\nc\ns 0 9\nc\na\na\na\na\na\np\nl 0\n"
      "n ok 0 1 1 0 0 0\ns ok 0 0 1 0 0 1\nc ok 0 0 2 0 0 1\ns ok 0 0 2 0 0 2\nc ok 0 0 3 0 0 2\na ok 0 0 3 0 0 2\na ok 0 0 3 0 0 2\na ok 0 0 3 0 0 2\na ok 0 0 3 0 0 2\na ok 1 6 3 1 1 0\np ok 0 2 2 1 0 0\nl ok 7 0 2 1 0 0\n"
  -- "Any other line .. gives `?`, a space and the line number, counted from 1, and ends it": no commit behind it
  pub ended : Prints "n 4 8 4\nc\nc 1\nc\n" "n ok 0 1 1 0 0 0\nc ok 0 0 2 0 0 0\n? 3\n"
  -- "first, once"; "larger sizes included"
  pub not_first : Prints "c\nn 4 8 4\n" "? 1\n"
  pub not_once : Prints "n 4 8 4\nn 4 8 4\nc\n" "n ok 0 1 1 0 0 0\n? 2\n"
  pub too_large : Prints "n 2049 8 4\n" "? 1\n"
  -- "a refused `n` ends it after its own line": by format, by power-up
  pub no_lines : Prints "n 0 8 4\nc\n" "n shape 0 0 0 0 0 0\n"
  pub no_slots : Prints "n 4 8 0\nc\n" "n work 0 0 0 0 0 0\n"
  -- a last line without a line feed is a line, and no bytes are none
  pub last_line : Prints "n 4 8 4\nc" "n ok 0 1 1 0 0 0\nc ok 0 0 2 0 0 0\n"
  pub no_line : Prints "" ""
  -- "the last `k` before it counting": the eviction owes a flush of one entry, 3 stores, and the line, as in W11. The
  -- power-up behind it owes the line, whose entry covers epoch 0, and the control word. The last one has "2^32 − 1"
  pub allowed : Prints "n 4 8 4\ns 1 5\nk 9\nk 3\ne 1\nk 1\np\np\n"
      "n ok 0 1 1 0 0 0\ns ok 0 0 1 0 0 1\ne cut 0 3 0 0 1 0\np cut 0 1 0 0 1 0\np ok 0 2 1 0 0 0\n"

pub replayed : Replayed
unfolding width pack unpack encode decode first_from applied each shifted covers formed proper_range proper_word proper_entry place_of entry_in old_in older_till
    proper_at first_improper buffered_in buffered_proper buffer_proper first_bit second_bit is_set with_bit marking marks hits buffered_marked buffer_marked pushed
    entry_stores flushed flush_stores flushed_buffer restore_stores restore_turn recover_stores slots.set_of slots.proper_tag slots.proper_full slots.proper_slot
    slots.proper_at slots.holds sets.places_of sets.proper_set sets.victim_of sets.spot_of slots.zeroed slots.dirtied slots.cleaned with_buffer flushing_if
    writing_out writing_back emptying slots.entry_due slots.undo_due entry_for logged storing_held steps.loading steps.storing steps.evicting steps.line_in
    cleaning visiting view_of good_sizes good_control good_shape good_slots good_work proper_epoch proper_counts waits proper_pass proper_registers miscounted
    good_buffer good_filter memories_checked power_up_checked running_checked ready_checked named_checked line_checked store_checked
    commit_checked scan_checked answer_of board_after store_at store_outcome
    evict_at evict_outcome scan_at scan_outcome power_up_outcome power_up_verdict
    format_report format_after load_at load_outcome work_after bringing slots.filled persisting expired dropped advance_stores bench_sized formatted
    started name_text row_of name_of numbers_text decimal_of decimal_places fields every is_number command_with command_in command_of requested within allowed_step allowing
    running requesting starting formatting performed transcript.line_text transcript.bad_text transcript.reply_text lines_of effect_of lines_text printed
replayed =
    record {
      listing = refl;
      ended = refl;
      not_first = refl;
      not_once = refl;
      too_large = refl;
      no_lines = refl;
      no_slots = refl;
      last_line = refl;
      no_line = refl;
      allowed = refl;
    }
