-- What the reader's functions answer: `new`, `step` and `command`. That bytes so read give what `Syntax` says of the line is `reads`, in `Laws`.
use Rattle.std.specs.Prelude.{ℕ, zero, suc, ◌+◌, ◌^◌, true, false, cond, ◌&&◌, Option, Some, None, ltb, eqb, slice_index}
use mathlib.Core.List.{List, [], ◌∷◌, foldl}
use Rattle.script.specs.declared.Command.{Command}
use Rattle.script.specs.declared.Line.{Line}
use Rattle.script.specs.declared.Reader.{Reader}
use Rattle.script.specs.Syntax.{is_digit, longer, command_with}

-- before the first byte
abbrev pub new_line : Line
new_line = record { letter = 0; count = 0; numbers = 0 ∷ 0 ∷ 0 ∷ []; full = false }

-- the last three numbers that have begun, the one that is being read last
abbrev pub first_of : Line → ℕ
first_of l = slice_index l.numbers 0

abbrev pub second_of : Line → ℕ
second_of l = slice_index l.numbers 1

abbrev pub third_of : Line → ℕ
third_of l = slice_index l.numbers 2

-- after a space that ends a field: the numbers move up, and the next begins
abbrev pub next_field : Line → Line
next_field l = record { letter = l.letter; count = l.count + 1; numbers = second_of l ∷ third_of l ∷ 0 ∷ []; full = false }

-- after a letter
abbrev pub with_letter : Line → ℕ → Line
with_letter l b = record { letter = b; count = l.count; numbers = l.numbers; full = true }

-- after a digit of a number
abbrev pub with_digit : Line → ℕ → Line
with_digit l b = record { letter = l.letter; count = l.count; numbers = first_of l ∷ second_of l ∷ longer (third_of l) b ∷ []; full = true }

-- after a space
unfoldable pub ended : Line → Option Line
ended l = cond (l.full && ltb l.count 3) (Some (next_field l)) None

-- after a byte of the first field
unfoldable pub lettered : Line → ℕ → Option Line
lettered l b = cond l.full None (Some (with_letter l b))

-- after a byte of a number
unfoldable pub digited : Line → ℕ → Option Line
digited l b = cond (is_digit b && ltb (longer (third_of l) b) (2 ^ 64)) (Some (with_digit l b)) None

-- the line after one more byte; none where only bad lines begin so
unfoldable pub line_step : Line → ℕ → Option Line
line_step l b = cond (eqb b 32) (ended l) (cond (eqb l.count 0) (lettered l b) (digited l b))

-- the numbers that a line has where so many have begun
unfoldable pub numbers_of : ℕ → Line → List ℕ
numbers_of zero l = []
numbers_of (suc zero) l = third_of l ∷ []
numbers_of (suc (suc zero)) l = second_of l ∷ third_of l ∷ []
numbers_of (suc (suc (suc n))) l = first_of l ∷ second_of l ∷ third_of l ∷ []

-- what the line asks for where it ends here
unfoldable pub line_command : Line → Option Command
line_command l = cond l.full (command_with l.letter (numbers_of l.count l)) None

abbrev pub new_reader : Reader
new_reader = record { line = Some new_line }

abbrev pub step_in : Option Line → ℕ → Option Line
step_in None b = None
step_in (Some l) b = line_step l b

-- the reader after one more byte
abbrev pub step_of : Reader → ℕ → Reader
step_of r b = record { line = step_in r.line b }

abbrev pub letter_in : Option Line → ℕ
letter_in None = 0
letter_in (Some l) = l.letter

-- the letter of the line where it is not bad
abbrev pub letter_by : Reader → ℕ
letter_by r = letter_in r.line

abbrev pub command_at : Option Line → Option Command
command_at None = None
command_at (Some l) = line_command l

abbrev pub command_by : Reader → Option Command
command_by r = command_at r.line

-- the reader after a list of bytes
unfoldable pub reader_of : List ℕ → Reader
reader_of line = foldl step_of new_reader line
