-- Request 3/13 on the bench of the worked examples: filters that lack a bit, and a board on which two lines share one.
use Rattle.std.specs.Prelude.{ℕ, ◌*◌, true, List, [], ◌∷◌, ◌++◌, replicate, set}
use Rattle.layout.specs.Memory.{shape_for}
use Rattle.layout.specs.Words.{encode_control, encode_shape, encode_slot}
use Rattle.checks.specs.Registers.{given}
use Rattle.picl.specs.Answers.{Verdict}
use Rattle.picl.specs.Calls as calls
use Rattle.picl.specs.Calls.{verdict_of}
use Rattle.worked.specs.Bench.{control, slot, clean, undo, padded, board, work, quiet, unmarked, filter}

-- an undo buffer without entries, with one word of its filter
abbrev pub buffer : (at word : ℕ) → List ℕ
buffer at word = replicate (2 * 32) 0 ++ filter at word

-- every bit of a filter is set
abbrev pub full : List ℕ
full = replicate 64 0xFFFFFFFFFFFFFFFF

-- line 3's entry is buffered, and the filter lacks it: calls at which another row would hold too, but for 14
abbrev pub store14 : Verdict
store14 = verdict_of (board (control 0 0 7) [] 7) (work clean 7 (undo 3 0 2 7) unmarked) (given 2 1 0 0 0) (calls.store 3 9)

abbrev pub commit14 : (persisted epoch : ℕ) → Verdict
commit14 persisted epoch = verdict_of (quiet persisted) (work clean 7 (undo 3 0 2 7) unmarked) (given epoch 1 0 0 0) calls.commit

abbrev pub scan14 : Verdict
scan14 = verdict_of (quiet 1) (work clean 7 (undo 3 0 2 7) unmarked) (given 2 1 0 0 0) calls.scan

-- A board of 234 lines, one entry in its log for none. Line 0 has bit 0 alone; line 233 has bit 233 = 3 × 64 + 41 and, 233 × 40503 being
-- 144 × 65536 + 15, bit 0.
abbrev pub wide : (length : ℕ) → (log : List ℕ) → (line : ℕ) → List ℕ
wide length log line = encode_control (control 0 0 length) ∷ encode_shape (shape_for 234 8) ∷ padded (2 * 8) log ++ line ∷ replicate 233 0

-- line 0 in slot 0, stored to in the running epoch 2; line 233's entry is buffered
abbrev pub shared : List ℕ
shared = encode_slot (slot true true 0 2) ∷ 9 ∷ replicate 6 0 ++ padded (2 * 32) (undo 233 0 2 5) ++ set (filter 0 0x8000000000000000) 3 0x400000

abbrev pub evict_shared : Verdict
evict_shared = verdict_of (wide 0 [] 7) shared (given 2 1 0 1 0) (calls.evict 0)
