-- The abstract cache log: what a cut leaves, what a cut loses, and the actions, each beside what the reference machine does.
-- Memory, cache and copies are functions of the address: no slot, ring, length or packed word stands here.
-- Quoted text is document 01's; "PiCL" names the paper of Nguyen and Wentzlaff. Assumes nothing.
use Rattle.std.specs.Prelude.{◌≡◌, List, [], ◌∷◌, ◌++◌, Bool, cond, ◌&&◌, ℕ, suc, ◌<◌, leb, eqb, drop}
use Rattle.base.specs.Cases.{update}
use Rattle.ranges.specs.Ranges.{Range, covers}

-- ---- the undo log

-- the line and its epochs, and "then the old data"
pub record Entry : Type 0 where
  pub range : Range
  pub old : ℕ

-- x covers epoch e for line a
unfoldable pub covers_at : Entry → (e a : ℕ) → Bool
covers_at x e a = eqb x.range.address a && covers x.range e

-- What the log, oldest entry first, says that line a was at epoch e; d where it says nothing.
-- "So a line gets the data of its oldest covering entry." PiCL: "there could be multiple undo entries for the same address
-- of the previous epoch but only the oldest one is valid".
unfoldable pub recall : List Entry → (e a d : ℕ) → ℕ
recall [] e a d = d
recall (x ∷ xs) e a d = cond (covers_at x e a) x.old (recall xs e a d)

-- The log says that line a was c at epoch e, whatever the default.
abbrev pub Tells : List Entry → (e a c : ℕ) → Type 0
Tells log e a c = (d : ℕ) → recall log e a d ≡ c

-- That is: some entry covers epoch e for line a.
abbrev pub Told : List Entry → (e a : ℕ) → Type 0
Told log e a = (c : ℕ) × Tells log e a c

-- That is: no entry covers epoch e for line a.
abbrev pub Silent : List Entry → (e a : ℕ) → Type 0
Silent log e a = (d : ℕ) → recall log e a d ≡ d

-- "the oldest run of entries with ValidTill ≤ target": how many they are
unfoldable pub ended : ℕ → List Entry → ℕ
ended q [] = 0
ended q (x ∷ xs) = cond (leb x.range.till q) (suc (ended q xs)) 0

-- the log with this run dropped
abbrev pub drop_ended : ℕ → List Entry → List Entry
drop_ended q log = drop (ended q log) log

-- ---- the states

-- What a cut leaves: the board memory. `persisted` is P, PiCL's PersistedEID.
pub record Durable : Type 0 where
  pub persisted : ℕ
  pub log : List Entry
  pub memory : ℕ → ℕ

-- A line in the cache. PiCL: "per-cache block TaggedEID which denotes when it was last modified".
pub data Line : Type 0 where
  absent : Line
  clean : (word : ℕ) → Line
  dirty : (tag word : ℕ) → Line

-- What a cut loses: the work memory and the registers. `running` is s, PiCL's SystemEID.
pub record Volatile : Type 0 where
  pub running : ℕ
  pub buffer : List Entry
  pub cache : ℕ → Line

-- ---- what the cached machine does

-- line a becomes l
abbrev pub holding : Volatile → ℕ → Line → Volatile
holding w a l = record { running = w.running; buffer = w.buffer; cache = update w.cache a l }

-- the undo entry that a store makes in epoch s. PiCL: "the ValidTill field of the log entry is also SystemEID".
abbrev pub undo : (s a from old : ℕ) → Entry
undo s a f d = record { range = record { address = a; from = f; till = s }; old = d }

-- "An entry goes to the buffer's end"; "The line is then dirty with tag s."
abbrev pub marked : Volatile → (a from old v : ℕ) → Volatile
marked w a f d v = record { running = w.running; buffer = w.buffer ++ (undo w.running a f d ∷ []); cache = update w.cache a (dirty w.running v) }

-- "A flush .. stores each entry at the ring's end .. oldest first, then the control word with length + b".
-- The control word is the one store of these that recovery sees.
abbrev pub flushed : Durable → Volatile → Durable
flushed b w = record { persisted = b.persisted; log = b.log ++ w.buffer; memory = b.memory }

-- "then b = 0"
abbrev pub unbuffered : Volatile → Volatile
unbuffered w = record { running = w.running; buffer = []; cache = w.cache }

-- "one store to the line"
abbrev pub written : Durable → (a d : ℕ) → Durable
written b a d = record { persisted = b.persisted; log = b.log; memory = update b.memory a d }

-- "Commit: s becomes s + 1."
abbrev pub next_epoch : Volatile → Volatile
next_epoch w = record { running = suc w.running; buffer = w.buffer; cache = w.cache }

-- "one control word with P = target and the oldest run of entries with ValidTill ≤ target dropped"
abbrev pub advanced : Durable → ℕ → Durable
advanced b q = record { persisted = q; log = drop_ended q b.log; memory = b.memory }

-- "Then the control word: same P, start 0, length 0, always stored."
abbrev pub cleared : Durable → Durable
cleared b = record { persisted = b.persisted; log = []; memory = b.memory }

-- "Then work memory all zero, s = P + 1, b = 0, c = 0."
abbrev pub restarted : Durable → Volatile
restarted b = record { running = suc b.persisted; buffer = []; cache = λ a. absent }

-- ---- what the actions ask for

-- To write line a in place: no BUFFERED entry covers P for it. So it is where no buffered entry has its address (`silent_away`),
-- and a test that flushes more often than needed will do (request 3/13).
abbrev pub Logged : Durable → Volatile → ℕ → Type 0
Logged b w a = Silent w.buffer b.persisted a

-- To persist epoch q: the cache holds no dirty line of q or of an earlier epoch.
abbrev pub Scanned : Volatile → ℕ → Type 0
Scanned w q = (a t d : ℕ) → w.cache a ≡ dirty t d → q < t

-- What power-up makes of line a: "each entry with ValidFrom ≤ P < ValidTill has its data stored to its line".
abbrev pub recovered : Durable → ℕ → ℕ
recovered b a = recall b.log b.persisted a (b.memory a)

-- To clear the log: memory is already what power-up makes of it.
abbrev pub Restored : Durable → Type 0
Restored b = (a : ℕ) → recovered b a ≡ b.memory a
