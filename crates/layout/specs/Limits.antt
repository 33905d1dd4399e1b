-- The paper's widths and limits. The constants of the code have the same values: a contract that names one of these is proved of code
-- that uses the constant.
use Rattle.std.specs.Prelude.{ℕ, ◌+◌, ◌-◌, ◌*◌, ◌^◌}

-- "All words are 64 bits, unsigned."
abbrev pub word_bits : ℕ
word_bits = 64

-- "EID means epoch number"; request 9/13: "EIDs become 40 bits."
abbrev pub epoch_bits : ℕ
epoch_bits = 40

abbrev pub last_epoch : ℕ
last_epoch = 2 ^ epoch_bits - 1

-- "address 16"
abbrev pub address_bits : ℕ
address_bits = 16

-- request 9/13: "The slot word keeps 6 zero bits."
abbrev pub spare_bits : ℕ
spare_bits = 6

-- request 9/13: "The shape word's first 24 bits hold 1 instead of 0."
abbrev pub board_version : ℕ
board_version = 1

-- "N lines, 1 to 65,536."
abbrev pub most_lines : ℕ
most_lines = 65536

-- request 9/13: "so L is 1 to 4,095"
abbrev pub most_entries : ℕ
most_entries = 4095

-- request 6/13: "S a multiple of 4, from 4 to 256": sets of four slots
abbrev pub ways : ℕ
ways = 4

abbrev pub most_slots : ℕ
most_slots = 256

-- "32 places for undo entries"
abbrev pub buffer_places : ℕ
buffer_places = 32

-- request 3/13: "the filter of source document 000, 4,096 bits"
abbrev pub filter_size : ℕ
filter_size = 4096

-- "s − P ≤ 16", and of a log entry "ValidTill ≤ P + 16": how far the running epoch, and so an entry's end, may be ahead of the persisted one.
-- So an entry spans at most as many epochs: request 9/13, "only spans 1 to 16 arise".
abbrev pub most_ahead : ℕ
most_ahead = 16

-- "No call but format and power-up makes more than 66 board stores": a line, a full buffer of two words each, and a control word
abbrev pub most_stores : ℕ
most_stores = 2 * buffer_places + 2
