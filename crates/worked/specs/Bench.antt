-- The bench of the worked examples: a board as the paper's replay formats it, "n 4 8 4", and one line in the cache. Every example
-- is about line 3, which slot 1 of the only set holds; the board has 7 for it, and a store puts 9.
use Rattle.std.specs.Prelude.{ℕ, ◌+◌, ◌-◌, ◌*◌, ◌≡◌, Bool, true, false, List, [], ◌∷◌, ◌++◌, length, replicate, set}
use Rattle.layout.specs.declared.Control.{Control}
use Rattle.layout.specs.declared.Entry.{Entry}
use Rattle.layout.specs.declared.Slot.{Slot}
use Rattle.layout.specs.Limits.{last_epoch}
use Rattle.layout.specs.Memory.{shape_for}
use Rattle.layout.specs.Words.{bit, encode_control, encode_shape, encode_entry, encode_slot}
use Rattle.status.specs.declared.Status.TheVariants as status
use Rattle.checks.specs.declared.Registers.{Registers}
use Rattle.checks.specs.Registers.{all_zero, given}
use Rattle.picl.specs.declared.Answer.{Answer}
use Rattle.picl.specs.Answers.{Verdict, answer, answer_of}
use Rattle.board.specs.Verdict.{due, board_after}
use Rattle.picl.specs.Calls.{verdict_of, power_up_verdict}
use Rattle.picl.specs.Calls as calls

-- words by their fields
abbrev pub control : (persisted start length : ℕ) → Control
control persisted start length = record { persisted = persisted; start = start; length = length }

abbrev pub entry : (address from till : ℕ) → Entry
entry address from till = record { address = address; till = till; span = till - from }

abbrev pub slot : (valid dirty : Bool) → (address tag : ℕ) → Slot
slot valid dirty address tag = record { valid = valid; dirty = dirty; address = address; tag = tag; spare = 0 }

abbrev pub clean : Slot
clean = slot true false 3 0

abbrev pub dirty : (tag : ℕ) → Slot
dirty tag = slot true true 3 tag

-- the two words of an undo entry
abbrev pub undo : (address from till old : ℕ) → List ℕ
undo address from till old = encode_entry (entry address from till) ∷ old ∷ []

-- two entries for line 3, each as wide as any may be, with the data 4 and 6
abbrev pub ending : (till₁ till₂ : ℕ) → List ℕ
ending till₁ till₂ = undo 3 (till₁ - 16) till₁ 4 ++ undo 3 (till₂ - 16) till₂ 6

-- one for it that ends in the last epoch
abbrev pub ending_last : List ℕ
ending_last = undo 3 (last_epoch - 16) last_epoch 4

-- two with W5's range, over the ring's end: the older, with the data 4, in the log's last place, the newer, with 6, in its first
abbrev pub around : List ℕ
around = undo 3 1 3 6 ++ (replicate 12 0 ++ undo 3 1 3 4)

-- W6's log
abbrev pub twice : List ℕ
twice = undo 3 0 2 4 ++ undo 3 0 2 6

-- the filter's 64 words: zero, but for one
abbrev pub unmarked : List ℕ
unmarked = replicate 64 0

abbrev pub filter : (at word : ℕ) → List ℕ
filter at word = set unmarked at word

-- Line 3 has bit 3, and (3 × 40503 = 121509 = 65536 + 55973, and 55973 / 16 = 3498 and a rest) bit 3498 = 54 × 64 + 42. Line 1 has bit 1, and
-- (40503 / 16 = 2531 and a rest) bit 2531 = 39 × 64 + 35. Line 0 has bit 0 alone.
abbrev pub marked3 : List ℕ
marked3 = set (filter 0 0x1000000000000000) 54 0x200000

abbrev pub marked1 : List ℕ
marked1 = set (filter 0 0x4000000000000000) 39 0x10000000

abbrev pub marked13 : List ℕ
marked13 = set (set (filter 0 0x5000000000000000) 39 0x10000000) 54 0x200000

-- the memories: a board with a control word, the log's first words and line 3; a work memory with slot 1 and three empty ones, the undo places'
-- first words and the filter
abbrev pub padded : ℕ → List ℕ → List ℕ
padded size words = words ++ replicate (size - length words) 0

abbrev pub board : Control → (log : List ℕ) → (line : ℕ) → List ℕ
board c log line = encode_control c ∷ encode_shape (shape_for 4 8) ∷ padded (2 * 8) log ++ 0 ∷ 0 ∷ 0 ∷ line ∷ []

abbrev pub work : Slot → (line : ℕ) → (places filter : List ℕ) → List ℕ
work s line places filter = 0 ∷ 0 ∷ encode_slot s ∷ line ∷ 0 ∷ 0 ∷ 0 ∷ 0 ∷ padded (2 * 32) places ++ filter

-- a board with an empty log
abbrev pub quiet : (persisted : ℕ) → List ℕ
quiet persisted = board (control persisted 0 0) [] 7

-- power-up
abbrev pub power_up : Control → (log : List ℕ) → Verdict
power_up c log = power_up_verdict (board c log 7) (work clean 7 [] unmarked)

-- with W5's range in the log: a power-up makes so many stores, and leaves line 3 so
abbrev pub RestoresAs : (persisted stores line : ℕ) → Type 0
RestoresAs persisted stores line =
    (answer_of stores all_zero (power_up (control persisted 7 2) around) ≡ answer status.Ok 0 stores (given (persisted + 1) 0 0 0 0))
    × (board_after stores (board (control persisted 7 2) around 7) (power_up (control persisted 7 2) around) ≡ board (control persisted 0 0) around line)

-- a store to line 3, as slot 1 holds it: the others are empty, so that slot 1 alone counts as dirty or not
abbrev pub store : (persisted epoch : ℕ) → Slot → Verdict
store persisted epoch held = verdict_of (quiet persisted) (work held 7 [] unmarked) (given epoch 0 0 (bit held.dirty) 0) (calls.store 3 9)

-- an eviction of line 3, stored to in the running epoch 2, with one entry buffered
abbrev pub evict : (places filter : List ℕ) → Verdict
evict places filter = verdict_of (quiet 0) (work (dirty 2) 9 places filter) (given 2 1 0 1 0) (calls.evict 3)

-- a commit
abbrev pub commit : (persisted epoch : ℕ) → Verdict
commit persisted epoch = verdict_of (quiet persisted) (work clean 7 [] unmarked) (given epoch 0 0 0 0) calls.commit

-- a scan's visit of slot 1, its target 1, with line 3 stored to in epoch 1 or 2 and its entry buffered
abbrev pub scan : (tag : ℕ) → Verdict
scan tag = verdict_of (quiet 0) (work (dirty tag) 9 (undo 3 0 tag 7) marked3) (given 2 1 1 1 1) calls.scan

-- what calls come to: a verdict with no store due, an answer of number 0, and one of number 3
abbrev pub still : Registers → (work : List ℕ) → Verdict
still r work = due (record { value = 0; registers = r; work = work; stores = [] })

abbrev pub ok : (value stores : ℕ) → Registers → Answer
ok value stores r = answer status.Ok value stores r

-- "3 entry: a log entry is not proper; value is i of the first": no store made, and power-up leaves registers zero
abbrev pub improper : (value : ℕ) → Answer
improper value = answer status.Entry value 0 all_zero
