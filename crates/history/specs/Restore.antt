-- Power-up's stores to the lines. Assumes nothing.
use Rattle.std.specs.Prelude.{List, [], ◌∷◌, ◌++◌, cond, ℕ, take}
use Rattle.ranges.specs.Ranges.{covers}
use Rattle.history.specs.Machine.{Entry, Durable}
use Rattle.base.specs.Cases.{update}

-- "from the newest log entry to the oldest, each entry with ValidFrom ≤ P < ValidTill"
unfoldable pub due : ℕ → List Entry → List Entry
due P [] = []
due P (x ∷ xs) = cond (covers x.range P) (due P xs ++ (x ∷ [])) (due P xs)

-- "has its data stored to its line", one entry after the other
unfoldable pub patched : List Entry → (ℕ → ℕ) → ℕ → ℕ
patched [] memory = memory
patched (x ∷ xs) memory = patched xs (update memory x.range.address x.old)

abbrev pub patched_by : List Entry → Durable → Durable
patched_by xs b = record { persisted = b.persisted; log = b.log; memory = patched xs b.memory }

-- the board after all of these stores
abbrev pub restored_all : Durable → Durable
restored_all b = patched_by (due b.persisted b.log) b

-- the board after the first n of them
abbrev pub restored_part : ℕ → Durable → Durable
restored_part n b = patched_by (take n (due b.persisted b.log)) b
