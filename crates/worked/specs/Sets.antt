-- The bench of request 6/13: a board of 12 lines, of which line a has 100 + a; 0 is persisted, 1 and 2 wait, 3 runs. Every call is about line 3,
-- but for those that say so, and a store puts 9. Of four slots all are line 3's set; of eight the last four, and the first four are that of the
-- even lines.
use Rattle.std.specs.Prelude.{ℕ, ◌+◌, ◌*◌, true, false, List, [], ◌∷◌, ◌++◌, replicate}
use Rattle.layout.specs.Memory.{shape_for}
use Rattle.layout.specs.Words.{encode_control, encode_shape, encode_slot}
use Rattle.board.specs.Stores.{Store, one}
use Rattle.board.specs.Verdict.{due}
use Rattle.checks.specs.Registers.{given}
use Rattle.picl.specs.declared.Report.{Report}
use Rattle.picl.specs.Answers.{Verdict}
use Rattle.picl.specs.Calls.{verdict_of, power_up_verdict, filter_bits_report}
use Rattle.picl.specs.Calls as calls
use Rattle.worked.specs.Bench.{control, slot, undo, unmarked, marked3, padded}

-- a slot's two words: of none, of a line as the board has it, and of one that was stored to in an epoch, which has 200 + a
abbrev pub empty : List ℕ
empty = 0 ∷ 0 ∷ []

abbrev pub clean : (address : ℕ) → List ℕ
clean address = encode_slot (slot true false address 0) ∷ (100 + address) ∷ []

abbrev pub dirty : (address tag : ℕ) → List ℕ
dirty address tag = encode_slot (slot true true address tag) ∷ (200 + address) ∷ []

-- that line once it is written out, and line 3 once 9 is stored to it
abbrev pub cleaned : (address : ℕ) → List ℕ
cleaned address = encode_slot (slot true false address 0) ∷ (200 + address) ∷ []

abbrev pub stored : List ℕ
stored = encode_slot (slot true true 3 3) ∷ 9 ∷ []

-- words that are not proper: not valid, and not zero; clean with a tag
abbrev pub odd : List ℕ
odd = 1 ∷ 0 ∷ []

abbrev pub tagged : List ℕ
tagged = encode_slot (slot true false 5 1) ∷ 105 ∷ []

-- a set of slots
abbrev pub four : (a b c d : List ℕ) → List ℕ
four a b c d = a ++ (b ++ (c ++ d))

abbrev pub none : List ℕ
none = four empty empty empty empty

-- lines 4 to 7, each stored to, by their tags
abbrev pub all_dirty : (a b c d : ℕ) → List ℕ
all_dirty a b c d = four (dirty 4 a) (dirty 5 b) (dirty 6 c) (dirty 7 d)

-- the memories
abbrev pub lines : List ℕ
lines = 100 ∷ 101 ∷ 102 ∷ 103 ∷ 104 ∷ 105 ∷ 106 ∷ 107 ∷ 108 ∷ 109 ∷ 110 ∷ 111 ∷ []

abbrev pub board_of : (length : ℕ) → (log lines : List ℕ) → List ℕ
board_of length log lines = encode_control (control 0 0 length) ∷ encode_shape (shape_for 12 8) ∷ padded (2 * 8) log ++ lines

abbrev pub board : List ℕ
board = board_of 0 [] lines

abbrev pub work_of : (slots places filter : List ℕ) → List ℕ
work_of slots places filter = slots ++ (padded (2 * 32) places ++ filter)

abbrev pub holding : (slots : List ℕ) → List ℕ
holding slots = work_of slots [] unmarked

-- the calls, with a count of dirty slots
abbrev pub loading_of : (slots : List ℕ) → (count address : ℕ) → Verdict
loading_of slots count address = verdict_of board (holding slots) (given 3 0 0 count 0) (calls.load address)

abbrev pub loading : (slots : List ℕ) → (count : ℕ) → Verdict
loading slots count = loading_of slots count 3

abbrev pub storing : (slots : List ℕ) → (count : ℕ) → Verdict
storing slots count = verdict_of board (holding slots) (given 3 0 0 count 0) (calls.store 3 9)

abbrev pub evicting : (slots : List ℕ) → (count : ℕ) → Verdict
evicting slots count = verdict_of board (holding slots) (given 3 0 0 count 0) (calls.evict 3)

-- a scan in the pass to epoch 1
abbrev pub scanning : (slots : List ℕ) → (count cursor : ℕ) → Verdict
scanning slots count cursor = verdict_of board (holding slots) (given 3 0 cursor count 1) calls.scan

-- a store with the log full
abbrev pub full_log : (slots : List ℕ) → (count : ℕ) → Verdict
full_log slots count = verdict_of (board_of 8 [] lines) (holding slots) (given 3 0 0 count 0) (calls.store 3 9)

-- a load of line 1, for which line 3 has to go; its entry is buffered
abbrev pub buffering : List ℕ
buffering = work_of (four (dirty 4 3) (dirty 3 2) (dirty 5 3) (dirty 6 3)) (undo 3 0 2 103) marked3

abbrev pub load_buffering : Verdict
load_buffering = verdict_of board buffering (given 3 1 0 4 0) (calls.load 1)

-- work memories of S slots, all zero
abbrev pub zeros : (slots : ℕ) → List ℕ
zeros slots = replicate (2 * slots + 128) 0

abbrev pub powering_up : (slots : ℕ) → Verdict
powering_up slots = power_up_verdict board (zeros slots)

abbrev pub loading_from : (slots : ℕ) → Verdict
loading_from slots = verdict_of board (zeros slots) (given 3 0 0 0 0) (calls.load 3)

abbrev pub bits_of : (slots : ℕ) → Report
bits_of slots = filter_bits_report (zeros slots)

-- what calls come to: no line written out, or one, which stands behind 2 + 2 × 8 words; the slots and the count that they leave
abbrev pub unwritten : List Store
unwritten = []

abbrev pub written : (address : ℕ) → List Store
written address = one (18 + address) (200 + address)

abbrev pub leaves : (value : ℕ) → List Store → (slots : List ℕ) → (count : ℕ) → Verdict
leaves value stores slots count = due (record { value = value; registers = given 3 0 0 count 0; work = holding slots; stores = stores })

-- of a store that makes an entry for line 3
abbrev pub logs : (from old : ℕ) → List Store → (slots : List ℕ) → (count : ℕ) → Verdict
logs from old stores slots count =
    due (record { value = 0; registers = given 3 1 0 count 0; work = work_of slots (undo 3 from 3 old) marked3; stores = stores })

-- of a scan's visit
abbrev pub visits : List Store → (slots : List ℕ) → (count cursor : ℕ) → Verdict
visits stores slots count cursor = due (record { value = 0; registers = given 3 0 cursor count 1; work = holding slots; stores = stores })
