-- What a call reads of the two memories before its tests: the control word, the shape word and the number of slots.
use Rattle.std.specs.Prelude.{ℕ, ◌+◌, ◌-◌, ◌%◌, Bool, not, ◌&&◌, ◌||◌, List, length, ◌==◌, nat_le, nat_lt}
use Rattle.base.specs.Several.{all_of, any_of}
use Rattle.layout.specs.Limits.{board_version, last_epoch, most_lines, most_entries, ways, most_slots, buffer_places, most_ahead}
use Rattle.layout.specs.Memory.{log_at, board_words, work_words, slots_of, control_in, shape_in, buffer_in}
use Rattle.undo.specs.declared.LogState.{LogState}
use Rattle.undo.specs.Log.{buffer_proper, buffer_marked}
use Rattle.slots.specs.declared.Bounds.{Bounds}
use Rattle.slots.specs.Slots.{dirty_at}
use Rattle.checks.specs.declared.Registers.{Registers}
use Rattle.checks.specs.declared.View.{View}

unfoldable pub view_of : List ℕ → List ℕ → View
view_of board work = record { control = control_in board; shape = shape_in board; slots = slots_of (length work) }

-- with the slots of a work memory of so many words
abbrev pub lent : View → (words : ℕ) → View
lent v words = record { control = v.control; shape = v.shape; slots = slots_of words }

-- "N or L out of range; wrong word count", which format asks too
unfoldable pub good_sizes : (words lines entries : ℕ) → Bool
good_sizes words lines entries =
    nat_le 1 lines && nat_le lines most_lines && nat_le 1 entries && nat_le entries most_entries && words == board_words lines entries

unfoldable pub good_control : View → Bool
good_control v =
    not (v.control.persisted == last_epoch)
    && nat_lt v.control.start v.shape.entries
    && nat_le v.control.length v.shape.entries

-- "1 shape: fewer than 2 board words; 24 bits not" 1; "N or L out of range; wrong word count; P = 2^40 − 1; start ≥ L;
-- length > L"
unfoldable pub good_shape : (words : ℕ) → View → Bool
good_shape words v =
    nat_le log_at words && v.shape.version == board_version && good_sizes words v.shape.lines v.shape.entries && good_control v

-- "2 work: work memory is not" 2S + 128 "words". Request 6/13: "Make S a multiple of 4, from 4 to 256, else refusal 2."
unfoldable pub good_slots : (slots : ℕ) → Bool
good_slots slots = slots % ways == 0 && nat_le ways slots && nat_le slots most_slots

unfoldable pub good_work : (words : ℕ) → Bool
good_work words = good_slots (slots_of words) && words == work_words (slots_of words)

-- "Proper registers: P < s ≤ 2^40 − 1, s − P ≤ 16, b ≤ 31, .., length + b ≤ L." Request 5/13: "Registers are also improper when the count
-- exceeds S."
unfoldable pub proper_epoch : View → Registers → Bool
proper_epoch v r =
    nat_lt v.control.persisted r.epoch
    && nat_le r.epoch last_epoch
    && nat_le (r.epoch - v.control.persisted) most_ahead

unfoldable pub proper_counts : View → Registers → Bool
proper_counts v r =
    nat_lt r.buffered buffer_places
    && nat_le r.dirty v.slots
    && nat_le (v.control.length + r.buffered) v.shape.entries

-- "Epochs between p and e wait"
unfoldable pub waits : View → Registers → (epoch : ℕ) → Bool
waits v r epoch = nat_lt v.control.persisted epoch && nat_lt epoch r.epoch

-- "c ≤ S". Request 8/13: "Registers are proper with target 0 and c = 0, or with P < target < s." So "c = 0 where s = P + 1", where no epoch
-- waits.
unfoldable pub proper_pass : View → Registers → Bool
proper_pass v r = nat_le r.cursor v.slots && (r.target == 0 && r.cursor == 0 || waits v r r.target)

unfoldable pub proper_registers : View → Registers → Bool
proper_registers v r = proper_epoch v r && proper_pass v r && proper_counts v r

-- "a count of 0 with the visited slot dirty, or of S with it not". Request 6/13: it "refuses 0 if any slot of it is dirty, S if any is not"
unfoldable pub miscounted : View → Registers → (work visited : List ℕ) → Bool
miscounted v r work visited =
    (r.dirty == 0) && any_of (dirty_at work) visited || r.dirty == v.slots && not (all_of (dirty_at work) visited)

-- what slots and buffered entries are held to, and the undo log as a call carries it
abbrev pub bounds_of : View → Registers → Bounds
bounds_of v r = record { lines = v.shape.lines; slots = v.slots; persisted = v.control.persisted; epoch = r.epoch }

abbrev pub undo_of : View → Registers → LogState
undo_of v r = record { control = v.control; entries = v.shape.entries; buffered = r.buffered }

-- "7 buffer: a buffered entry is not proper"
unfoldable pub good_buffer : View → List ℕ → Registers → Bool
good_buffer v work r = buffer_proper (buffer_in work) r.buffered v.shape.lines r.epoch

-- request 3/13: "14 filter, a buffered entry with either bit unset"
unfoldable pub good_filter : List ℕ → Registers → Bool
good_filter work r = buffer_marked (buffer_in work) r.buffered
