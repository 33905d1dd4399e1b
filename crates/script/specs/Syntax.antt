-- What a line of a script asks for. A line is the list of its bytes, without its line feed. The paper, "Replay on the bench":
--     `n N L S` .., `s a value`, `l a`, `e a`, `c`, `a` (scan), `p` .., `k count` .. Numbers are decimal, single spaces, below 2^64 (count below 2^32). .. Any other line .. gives `?`
use Rattle.std.specs.Prelude.{ℕ, ◌+◌, ◌-◌, ◌*◌, ◌^◌, Bool, true, false, cond, not, ◌&&◌, Option, Some, None, ltb, leb, eqb}
use mathlib.Core.List.{List, [], ◌∷◌, map, foldl}
use Rattle.records.specs.declared.Call.TheVariants.{Load, Store, Evict, Commit, Scan}
use Rattle.script.specs.declared.Command.{Command}
use Rattle.script.specs.declared.Command.TheVariants.{Format, Call, PowerUp, Allow}

-- "single spaces": the fields of a line are what stands between its spaces, so one more than there are spaces. A field may be empty
pub record Fields : Type 0 where
  pub head : List ℕ
  pub rest : List (List ℕ)

-- the fields with a space in front
abbrev pub spaced : Fields → Fields
spaced f = record { head = []; rest = f.head ∷ f.rest }

-- the fields with another byte in front
abbrev pub prefixed : ℕ → Fields → Fields
prefixed b f = record { head = b ∷ f.head; rest = f.rest }

unfoldable pub fields : List ℕ → Fields
fields [] = record { head = []; rest = [] }
fields (b ∷ bs) = cond (eqb b 32) (spaced (fields bs)) (prefixed b (fields bs))

unfoldable pub every : {A : Type 0} → (A → Bool) → List A → Bool
every p [] = true
every p (x ∷ xs) = p x && every p xs

abbrev pub is_empty : List ℕ → Bool
is_empty [] = true
is_empty (b ∷ bs) = false

-- the bytes `0` to `9`
abbrev pub is_digit : ℕ → Bool
is_digit b = leb 48 b && leb b 57

-- the value of digits whose value is v with one more behind them
abbrev pub longer : ℕ → ℕ → ℕ
longer v b = v * 10 + (b - 48)

-- "Numbers are decimal"
abbrev pub value_of : List ℕ → ℕ
value_of bs = foldl longer 0 bs

-- "below 2^64". A number has a digit. Its value is bounded and its length is not, so any number of zeros may stand in front
unfoldable pub is_number : List ℕ → Bool
is_number bs = not (is_empty bs) && (every is_digit bs && ltb (value_of bs) (2 ^ 64))

-- a letter with the values of its numbers, "count below 2^32"
unfoldable pub command_with : ℕ → List ℕ → Option Command
command_with letter [] =
    cond (eqb letter 99) (Some (Call Commit))  -- `c`
    (cond (eqb letter 97) (Some (Call Scan))  -- `a`
    (cond (eqb letter 112) (Some PowerUp) None))  -- `p`
command_with letter (x ∷ []) =
    cond (eqb letter 108) (Some (Call (Load x)))  -- `l a`
    (cond (eqb letter 101) (Some (Call (Evict x)))  -- `e a`
    (cond (eqb letter 107 && ltb x (2 ^ 32)) (Some (Allow x)) None))  -- `k count`
command_with letter (x ∷ y ∷ []) = cond (eqb letter 115) (Some (Call (Store x y))) None  -- `s a value`
command_with letter (x ∷ y ∷ z ∷ []) = cond (eqb letter 110) (Some (Format x y z)) None  -- `n N L S`
command_with letter (x ∷ y ∷ z ∷ w ∷ more) = None

-- the first field is the letter, each other field a number
unfoldable pub command_in : List ℕ → List (List ℕ) → Option Command
command_in [] numbers = None
command_in (letter ∷ []) numbers = cond (every is_number numbers) (command_with letter (map value_of numbers)) None
command_in (letter ∷ b ∷ bs) numbers = None

-- what a line asks for
unfoldable pub command_of : List ℕ → Option Command
command_of line = command_in (fields line).head (fields line).rest
