-- The invariant of the abstract cache log: `Safe` is the crash condition, true of what a cut leaves at every moment; `Live` is
-- what a running machine keeps besides. Assumes nothing.
use Rattle.std.specs.Prelude.{◌≡◌, true, List, [], ◌∷◌, ◌++◌, ℕ, suc, ◌+◌, ◌≤◌, ◌<◌}
use Rattle.ranges.specs.Ranges.{proper_range}
use Rattle.history.specs.Machine.{Entry, recall, Tells, Durable, Line, absent, clean, dirty, Volatile, recovered}
use Rattle.reference.specs.Machine.{Reference}

-- ---- proper logs

-- "A proper log entry has address < N, ValidFrom < ValidTill, P < ValidTill, and a ValidTill not below that of the next
-- older entry." `low` is that older ValidTill, or P + 1 for the oldest entry. Request 2/13: "only if ValidTill ≤ P + 16 as
-- well", where `high` is P + W. Power-up tests all but `narrow`, which a later request brings: the span is 1 to W.
pub record ProperEntry (N W low high : ℕ) (x : Entry) : Type 0 where
  pub proper : proper_range N low high x.range ≡ true
  pub narrow : x.range.till ≤ x.range.from + W

-- oldest entry first
abbrev pub ProperLog : (N W low high : ℕ) → List Entry → Type 0
ProperLog N W low high [] = Unit
ProperLog N W low high (x ∷ xs) = ProperEntry N W low high x × ProperLog N W x.range.till high xs

-- ---- what a cut leaves

-- Of the reference machine it reads p and copy p alone: a call that is cut makes board stores and leaves that machine as it was.
pub record Safe (N W : ℕ) (b : Durable) (g : Reference) : Type 0 where
  -- "After each call the control word's P is p": so the reference machine restarts from the copy that the board recovers to.
  pub named : b.persisted ≡ g.persisted
  -- "power-up never answers 1 or 3": so it does recover. No entry ends after s, which a cut loses, so none after P + W.
  pub proper : ProperLog N W (suc b.persisted) (b.persisted + W) b.log
  -- "after each accepted power-up the board's lines are the loom's": the claim itself
  pub recovers : (a : ℕ) → recovered b a ≡ g.copies b.persisted a

-- ---- a running machine

-- all entries, as the next flush will leave the log
abbrev pub entries : Durable → Volatile → List Entry
entries b w = b.log ++ w.buffer

-- What all entries tell of the epochs from P to s.
pub record History (N W P s : ℕ) (log : List Entry) (g : Reference) : Type 0 where
  -- "running epoch e" is s: so a commit's copy is of the epoch that the entries call s
  pub clock : g.running ≡ s
  -- epoch P has ended: so a commit does not touch its copy, and an entry from P till s is not empty
  pub ahead : P < s
  -- at most W − 1 committed epochs wait: so the next entry, from P or later, is narrow
  pub window : s ≤ P + W
  -- no entry reaches beyond s: so a commit finds none that covers s, and the current lines are copy s
  pub proper : ProperLog N W (suc P) s log
  -- The current lines, undone back to an ended epoch, are its copy: at P for recovery, and after P because any of these epochs
  -- may be persisted next.
  pub past : (a e : ℕ) → P ≤ e → e < s → recall log e a (g.lines a) ≡ g.copies e a

-- Line a is dirty, with tag t and data d; the reference machine has c there now, and `copy e` in its copy of epoch e.
pub record Dirty (P s : ℕ) (log : List Entry) (a c : ℕ) (copy : ℕ → ℕ) (t d : ℕ) : Type 0 where
  -- so a load gives the reference machine's line
  pub current : d ≡ c
  -- so P is among the epochs that `told` speaks of: recovery does not read this line from memory
  pub waiting : P < t
  -- so a store finds the line committed (t < s) or transient (t = s)
  pub started : t ≤ s
  -- the entries tell the line at every epoch before t: so its data may go to memory at any time, and need not go soon
  pub told : (e : ℕ) → P ≤ e → e < t → Tells log e a (copy e)

-- Line a, held so, where memory has the word m.
abbrev pub Fits : (P s : ℕ) → List Entry → (a m c : ℕ) → (ℕ → ℕ) → Line → Type 0
-- so a fill takes the reference machine's line
Fits P s log a m c copy absent = m ≡ c
-- so it may be discarded with no store
Fits P s log a m c copy (clean d) = (d ≡ c) × (d ≡ m)
Fits P s log a m c copy (dirty t d) = Dirty P s log a c copy t d

abbrev pub Held : Durable → Volatile → Reference → ℕ → Line → Type 0
Held b w g a l = Fits b.persisted w.running (entries b w) a (b.memory a) (g.lines a) (λ e. g.copies e a) l

pub record Live (N W : ℕ) (b : Durable) (w : Volatile) (g : Reference) : Type 0 where
  pub history : History N W b.persisted w.running (entries b w) g
  pub held : (a : ℕ) → Held b w g a (w.cache a)
