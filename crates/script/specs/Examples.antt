-- Lines that the definition reads as the paper does: of its worked script those of each kind, and the bounds.
use Rattle.std.specs.Prelude.{◌≡◌, refl, Some, None, [], ◌∷◌}
use Rattle.records.specs.declared.Call.TheVariants.{Load, Store, Evict, Commit, Scan}
use Rattle.script.specs.declared.Command.TheVariants.{Format, Call, PowerUp, Allow}
use Rattle.script.specs.Syntax.{fields, every, is_number, command_with, command_in, command_of}

-- `n 4 8 2`
pub format_line : command_of (110 ∷ 32 ∷ 52 ∷ 32 ∷ 56 ∷ 32 ∷ 50 ∷ []) ≡ Some (Format 4 8 2)
unfolding command_of fields command_in every is_number command_with
format_line = refl

-- `s 0 7`
pub store_line : command_of (115 ∷ 32 ∷ 48 ∷ 32 ∷ 55 ∷ []) ≡ Some (Call (Store 0 7))
unfolding command_of fields command_in every is_number command_with
store_line = refl

-- `l 0`
pub load_line : command_of (108 ∷ 32 ∷ 48 ∷ []) ≡ Some (Call (Load 0))
unfolding command_of fields command_in every is_number command_with
load_line = refl

-- `c`
pub commit_line : command_of (99 ∷ []) ≡ Some (Call Commit)
unfolding command_of fields command_in every is_number command_with
commit_line = refl

-- `a`
pub scan_line : command_of (97 ∷ []) ≡ Some (Call Scan)
unfolding command_of fields command_in every is_number command_with
scan_line = refl

-- `p`
pub power_up_line : command_of (112 ∷ []) ≡ Some PowerUp
unfolding command_of fields command_in every is_number command_with
power_up_line = refl

-- `e 007`
pub zeros_line : command_of (101 ∷ 32 ∷ 48 ∷ 48 ∷ 55 ∷ []) ≡ Some (Call (Evict 7))
unfolding command_of fields command_in every is_number command_with
zeros_line = refl

-- `k 4294967295`
pub count_largest_line : command_of (107 ∷ 32 ∷ 52 ∷ 50 ∷ 57 ∷ 52 ∷ 57 ∷ 54 ∷ 55 ∷ 50 ∷ 57 ∷ 53 ∷ []) ≡ Some (Allow 4294967295)
unfolding command_of fields command_in every is_number command_with
count_largest_line = refl

-- `k 4294967296`
pub count_above_line : command_of (107 ∷ 32 ∷ 52 ∷ 50 ∷ 57 ∷ 52 ∷ 57 ∷ 54 ∷ 55 ∷ 50 ∷ 57 ∷ 54 ∷ []) ≡ None
unfolding command_of fields command_in every is_number command_with
count_above_line = refl

-- `l 18446744073709551615`
pub largest_line : command_of (108 ∷ 32 ∷ 49 ∷ 56 ∷ 52 ∷ 52 ∷ 54 ∷ 55 ∷ 52 ∷ 52 ∷ 48 ∷ 55 ∷ 51 ∷ 55 ∷ 48 ∷ 57 ∷ 53 ∷ 53 ∷ 49 ∷ 54 ∷ 49 ∷ 53 ∷ []) ≡ Some (Call (Load 18446744073709551615))
unfolding command_of fields command_in every is_number command_with
largest_line = refl

-- `l 18446744073709551616`
pub above_line : command_of (108 ∷ 32 ∷ 49 ∷ 56 ∷ 52 ∷ 52 ∷ 54 ∷ 55 ∷ 52 ∷ 52 ∷ 48 ∷ 55 ∷ 51 ∷ 55 ∷ 48 ∷ 57 ∷ 53 ∷ 53 ∷ 49 ∷ 54 ∷ 49 ∷ 54 ∷ []) ≡ None
unfolding command_of fields command_in every is_number command_with
above_line = refl

-- `s  0 7`
pub two_spaces_line : command_of (115 ∷ 32 ∷ 32 ∷ 48 ∷ 32 ∷ 55 ∷ []) ≡ None
unfolding command_of fields command_in every is_number command_with
two_spaces_line = refl

-- `c `
pub space_behind_line : command_of (99 ∷ 32 ∷ []) ≡ None
unfolding command_of fields command_in every is_number command_with
space_behind_line = refl

-- ``
pub empty_line : command_of ([]) ≡ None
unfolding command_of fields command_in every is_number command_with
empty_line = refl
