-- Board stores that are due, in order, and what an allowance lets through of them.
use Rattle.std.specs.Prelude.{ℕ, zero, suc, ◌+◌, ◌-◌, ◌≡◌, Bool, List, ◌∷◌, ◌++◌, [], eqb, length, set, take}
use Rattle.board.specs.declared.Meter.{Meter}

pub record Store : Type 0 where
  pub at : ℕ
  pub word : ℕ

abbrev pub one : ℕ → ℕ → List Store
one at word = record { at = at; word = word } ∷ []

-- the memory after these stores, the first first
unfoldable pub applied : List ℕ → List Store → List ℕ
applied memory [] = memory
applied memory (s ∷ ss) = applied (set memory s.at s.word) ss

-- "an allowance, 0 to 2^32 − 1: the board stores it may make". A meter counts one more, so that a store that was due with
-- none left shows too.
abbrev pub full : ℕ → Meter
full allowance = record { left = allowance + 1 }

-- how many stores may still be made
unfoldable pub allowed : Meter → ℕ
allowed m = m.left - 1

-- "12 cut: more stores are due than the allowance"
unfoldable pub was_cut : Meter → Bool
was_cut m = eqb m.left 0

-- "exactly the first stores up to the allowance are on the board"
unfoldable pub stored : List ℕ → Meter → List Store → List ℕ
stored memory m ss = applied memory (take (allowed m) ss)

-- the meter once so many stores were due
unfoldable pub spent : Meter → ℕ → Meter
spent m due = record { left = m.left - due }

-- What a function that owes the stores ss does to a memory and a meter: the contract of every storing function.
pub record Ran (before : List ℕ) (m : Meter) (ss : List Store) (after : List ℕ) (m' : Meter) : Type 0 where
  pub memory : after ≡ stored before m ss
  pub meter : m' ≡ spent m (length ss)

-- what a loop owes: the stores f 0, then f 1, and so on, k times
unfoldable pub each : (ℕ → List Store) → ℕ → List Store
each f zero = []
each f (suc k) = each f k ++ f k

-- stores to a part that starts at place a of a memory, as stores to the whole
unfoldable pub shifted : ℕ → List Store → List Store
shifted a [] = []
shifted a (s ∷ ss) = record { at = a + s.at; word = s.word } ∷ shifted a ss
