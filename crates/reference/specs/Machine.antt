-- The reference machine that judges recovery, which has neither cache nor log. Document 01 calls it the uncached loom.
use Rattle.std.specs.Prelude.{ℕ, suc, cond, List, [], ◌∷◌, leb, eqb}
use Rattle.base.specs.Cases.{update}

-- "State: N lines, running epoch e, persisted epoch p, copies of the lines by epoch." Lines are a function of the
-- address, and those of N and above stay as they are; of the copies, those of ended epochs alone mean anything.
pub record Reference : Type 0 where
  pub running : ℕ
  pub persisted : ℕ
  pub lines : ℕ → ℕ
  pub copies : ℕ → ℕ → ℕ

-- One that rests at epoch P with these lines. "A fresh one, as format leaves the board: lines zero, e = 1, p = 0, copy
-- 0 the lines" is `resting 0 (λ a. 0)`.
abbrev pub resting : (P : ℕ) → (ℕ → ℕ) → Reference
resting P lines = record { running = suc P; persisted = P; lines = lines; copies = λ e. lines }

-- ---- what it does

-- "Store: line a becomes the value."
abbrev pub stores : Reference → (a v : ℕ) → Reference
stores g a v = record { running = g.running; persisted = g.persisted; lines = update g.lines a v; copies = g.copies }

-- "Commit: the lines become copy e; e rises by one."
abbrev pub commits : Reference → Reference
commits g = record { running = suc g.running; persisted = g.persisted; lines = g.lines; copies = update g.copies g.running g.lines }

-- "Scan with a value not 0: p is that value."
abbrev pub persists : Reference → ℕ → Reference
persists g q = record { running = g.running; persisted = q; lines = g.lines; copies = g.copies }

-- the copies up to epoch p; a later one reads as zeros
unfoldable pub up_to : ℕ → (ℕ → ℕ → ℕ) → ℕ → ℕ → ℕ
up_to p copies e a = cond (leb e p) (copies e a) 0

-- "Power-up: the lines become copy p; later copies are forgotten; e = p + 1."
abbrev pub restarts : Reference → Reference
restarts g = record { running = suc g.persisted; persisted = g.persisted; lines = g.copies g.persisted; copies = up_to g.persisted g.copies }

-- ---- what it is fed

-- "It is fed each call with its arguments, its number and a scan's value, and sees nothing else": what it makes of a
-- call. "All else, refused and cut calls too, changes nothing."
pub data Event : Type 0 where
  stored : (address value : ℕ) → Event
  committed : Event
  scanned : (value : ℕ) → Event
  powered_up : Event
  nothing : Event

abbrev pub does : Reference → Event → Reference
does g (stored a v) = stores g a v
does g committed = commits g
does g (scanned value) = cond (eqb value 0) g (persists g value)
does g powered_up = restarts g
does g nothing = g

-- one event after the other
unfoldable pub does_all : Reference → List Event → Reference
does_all g [] = g
does_all g (x ∷ xs) = does_all (does g x) xs
