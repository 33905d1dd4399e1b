-- Records by their bytes, the paper's replay as a trace, and a trace in which calls of every kind make stores.
use Rattle.std.specs.Prelude.{ℕ, ◌*◌, List, [], ◌∷◌, ◌++◌, Option, Result, Ok, Err, replicate}
use Rattle.status.specs.declared.Status.{Status}
use Rattle.status.specs.declared.Status.TheVariants.{Trace}
use Rattle.records.specs.declared.Call.{Call}

abbrev pub zeros : ℕ → List ℕ
zeros n = replicate n 0

abbrev pub wrote : List ℕ → Result (List ℕ) Status
wrote bytes = Ok bytes

abbrev pub bad : Result (Option Call) Status
bad = Err Trace

-- records by kind, line and value: the kind stands in the top three bits of the first byte, a line below 8 in those of
-- the third, a value below 256 in the last byte
abbrev pub record_of : (kind line value : ℕ) → List ℕ
record_of kind line value = 0x20 * kind ∷ 0 ∷ 0x20 * line ∷ zeros 12 ++ (value ∷ [])

abbrev pub loading : (line : ℕ) → List ℕ
loading line = record_of 0 line 0

abbrev pub storing : (line value : ℕ) → List ℕ
storing line value = record_of 1 line value

abbrev pub committing : List ℕ
committing = record_of 2 0 0

abbrev pub scanning : List ℕ
scanning = record_of 3 0 0

abbrev pub evicting : (line : ℕ) → List ℕ
evicting line = record_of 4 line 0

-- `a` five times: a visit of each slot, and the pass's last step
abbrev pub passing : List ℕ
passing = scanning ++ (scanning ++ (scanning ++ (scanning ++ scanning)))

-- `s 0 7`, `c`, `s 0 9`, `c`, five `a`, `l 0`
abbrev pub listing : List ℕ
listing = storing 0 7 ++ (committing ++ (storing 0 9 ++ (committing ++ (passing ++ loading 0))))

-- A trace whose four totals differ, on 8 lines with a log of 8 entries and one set of 4 slots.
-- `s 0 1` to `s 3 4`: the lines fill the set, each dirty with tag 1, and b is 4. No store.
-- `l 4`: no slot is empty or clean, and all have the same tag, so line 0 leaves slot 0. Its own entry is buffered, so
-- it flushes: 2 × 4 + 1 stores, and one to the line, 10.
-- `s 5 6`: line 4 is clean, and leaves slot 0 for nothing; b is 1. No store.
-- `s 6 7`: all are dirty again, so line 5 leaves slot 0, behind a flush of its entry: 2 × 1 + 1 and 1, 4; b is 1.
-- `e 1`: line 1's bits are 1 and 2531, as in `Bench`. Line 6's entry alone is buffered, and sets bits 6 and 2900
-- (6 × 40503 = 3 × 65536 + 46410, and 46410 / 16 = 2900 and a rest): no flush, 1 store.
abbrev pub four_kinds : List ℕ
four_kinds =
    storing 0 1 ++ (storing 1 2 ++ (storing 2 3 ++ (storing 3 4 ++ (loading 4 ++ (storing 5 6 ++ (storing 6 7 ++ evicting 1))))))

-- `c`, then a pass with target 1: slot 0 has line 6, which flushes its entry, 3 and 1; slot 1 is empty; lines 2 and 3
-- take one store each; the last step finds b = 0 and stores the control word. That is 4 + 0 + 1 + 1 + 1 = 7.
abbrev pub one_pass : List ℕ
one_pass = committing ++ passing

-- there is no kind 5
abbrev pub bad_record : List ℕ
bad_record = record_of 5 0 0
