-- What is printed, as bytes. The paper: "Output: letter, name, value, stores, s, P, log length, b", in decimal, with single spaces,
-- and "`?`, a space and the line number".
use Rattle.std.specs.Prelude.{ℕ, List, [], ◌∷◌, ◌++◌}
use Rattle.status.specs.declared.Status.{Status}
use Rattle.text.specs.Text.{space_byte, line_feed, numbers_text, name_text}
use Rattle.replay.specs.declared.Line.{Line}
use Rattle.replay.specs.declared.Reply.{Reply}
use Rattle.replay.specs.declared.Reply.TheVariants.{Quiet, Said, Last, Bad}

-- the letter, a space and the name
abbrev pub head_text : ℕ → Status → List ℕ
head_text letter s = (letter ∷ space_byte ∷ []) ++ name_text s

abbrev pub numbers_in : Line → List ℕ
numbers_in l = l.value ∷ l.stores ∷ l.epoch ∷ l.persisted ∷ l.length ∷ l.buffered ∷ []

unfoldable pub line_text : (letter : ℕ) → Line → List ℕ
line_text letter l = head_text letter l.status ++ (numbers_text (numbers_in l) ++ (line_feed ∷ []))

unfoldable pub bad_text : ℕ → List ℕ
bad_text number = (63 ∷ []) ++ (numbers_text (number ∷ []) ++ (line_feed ∷ []))

-- what the command of the line with this letter and number prints
unfoldable pub reply_text : (letter : ℕ) → Reply → (number : ℕ) → List ℕ
reply_text letter Quiet number = []
reply_text letter (Said l) number = line_text letter l
reply_text letter (Last l) number = line_text letter l
reply_text letter Bad number = bad_text number
