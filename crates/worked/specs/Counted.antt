-- Request 5/13 on the bench of the worked examples: four slots, the second with line 3, the others empty; epoch 2 runs and 0 is persisted.
use Rattle.std.specs.Prelude.{ℕ, List, []}
use Rattle.layout.specs.declared.Slot.{Slot}
use Rattle.checks.specs.Registers.{given}
use Rattle.picl.specs.Answers.{Verdict}
use Rattle.picl.specs.Calls as calls
use Rattle.picl.specs.Calls.{verdict_of}
use Rattle.worked.specs.Bench.{work, quiet, clean, dirty, undo, unmarked}

abbrev pub holding : Slot → List ℕ
holding s = work s 9 [] unmarked

-- calls with a count of dirty slots
abbrev pub loading : Slot → (count address : ℕ) → Verdict
loading s count address = verdict_of (quiet 0) (holding s) (given 2 0 0 count 0) (calls.load address)

abbrev pub storing : Slot → (count address : ℕ) → Verdict
storing s count address = verdict_of (quiet 0) (holding s) (given 2 0 0 count 0) (calls.store address 5)

abbrev pub evicting : Slot → (count address : ℕ) → Verdict
evicting s count address = verdict_of (quiet 0) (holding s) (given 2 0 0 count 0) (calls.evict address)

abbrev pub scanning : Slot → (count cursor : ℕ) → Verdict
scanning s count cursor = verdict_of (quiet 0) (holding s) (given 2 0 cursor count 1) calls.scan

abbrev pub committing : Slot → (count : ℕ) → Verdict
committing s count = verdict_of (quiet 0) (holding s) (given 2 0 0 count 0) calls.commit

-- an entry that is not proper is buffered, and the count is wrong: 4 comes before 7
abbrev pub bad_entry : List ℕ
bad_entry = work (dirty 2) 9 (undo 3 2 2 7) unmarked

abbrev pub before7 : Verdict
before7 = verdict_of (quiet 0) bad_entry (given 2 1 0 0 0) (calls.evict 3)

-- no epoch waits, and the count is wrong: 4 comes before 11
abbrev pub before11 : Verdict
before11 = verdict_of (quiet 1) (holding clean) (given 2 0 0 4 0) calls.scan
