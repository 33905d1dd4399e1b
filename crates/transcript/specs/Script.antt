-- What a script prints, from its bytes to the printed bytes. The paper, "Replay on the bench":
-- "The program `loomreplay` reads lines on standard input". What a line asks for is in `script/specs/Syntax`, what that
-- does in `replay/specs/Bench`, its text in `Text`.
use Rattle.std.specs.Prelude.{ℕ, ◌+◌, Bool, true, false, cond, List, [], ◌∷◌, ◌++◌, Option, replicate, ◌==◌, slice_index}
use Rattle.benchboard.specs.Sizes.{bench_board, bench_work}
use Rattle.script.specs.Syntax.{command_of}
use Rattle.replay.specs.declared.Bench.{Bench}
use Rattle.replay.specs.declared.Reply.{Reply}
use Rattle.replay.specs.declared.Reply.TheVariants.{Quiet, Said, Last, Bad}
use Rattle.replay.specs.Bench.{Effect, new_bench, performed}
use Rattle.text.specs.Text.{line_feed}
use Rattle.transcript.specs.Text.{reply_text}

-- "reads lines": a line feed ends a line. Bytes behind the last line feed are a line too
abbrev pub with_byte : ℕ → (lines : List (List ℕ)) → List (List ℕ)
with_byte b [] = (b ∷ []) ∷ []
with_byte b (line ∷ lines) = (b ∷ line) ∷ lines

unfoldable pub lines_of : (script : List ℕ) → List (List ℕ)
lines_of [] = []
lines_of (b ∷ bs) = cond (b == line_feed) ([] ∷ lines_of bs) (with_byte b (lines_of bs))

-- a replay between two lines
pub record State : Type 0 where
  pub bench : Option Bench
  pub board : List ℕ
  pub work : List ℕ

-- "Its board memory is an array of 4,098 words, all zero at first"
abbrev pub fresh : State
fresh = record { bench = new_bench; board = replicate bench_board 0; work = replicate bench_work 0 }

unfoldable pub effect_of : State → (line : List ℕ) → Effect
effect_of s line = performed s.bench (command_of line) s.board s.work

abbrev pub state_after : Effect → State
state_after e = record { bench = e.step.bench; board = e.board; work = e.work }

-- "Any other line .. ends it; a refused `n` ends it after its own line"
abbrev pub ends : Reply → Bool
ends Quiet = false
ends (Said l) = false
ends (Last l) = true
ends Bad = true

-- "Output: letter, ..": a line's first byte
abbrev pub letter_of : (line : List ℕ) → ℕ
letter_of line = slice_index line 0

-- what the lines from this number on print
unfoldable pub lines_text : State → (number : ℕ) → (lines : List (List ℕ)) → List ℕ
lines_text s number [] = []
lines_text s number (line ∷ lines) =
    let e = effect_of s line in
    reply_text (letter_of line) e.step.reply number ++ cond (ends e.step.reply) [] (lines_text (state_after e) (number + 1) lines)

-- "the line number, counted from 1"
unfoldable pub printed : (script : List ℕ) → List ℕ
printed script = lines_text fresh 1 (lines_of script)
