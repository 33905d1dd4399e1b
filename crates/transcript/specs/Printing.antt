-- What a command prints, put into a buffer: the laws that the proofs cite.
use Rattle.std.specs.Prelude.{◌≡◌, ℕ, ◌*◌, List, [], ◌∷◌, length}
use Rattle.std.proofs.Math.Path.{refl}
use Rattle.std.proofs.Common.{arith}
use Rattle.status.specs.declared.Status.{Status}
use Rattle.replay.specs.declared.Line.{Line}
use Rattle.replay.specs.declared.Reply.{Reply}
use Rattle.replay.specs.declared.Reply.TheVariants.{Quiet, Said, Last, Bad}
use Rattle.text.specs.Text.{space_byte, line_feed, number_bytes, numbers_text, name_text}
use Rattle.text.specs.Printing.{Prints, prints_none, prints_as, prints_then}
use Rattle.status.specs.Names.{most_letters}
use Rattle.transcript.specs.Text.{head_text, numbers_in, line_text, bad_text, reply_text}

-- the most bytes that a command prints: letter, space and name, six numbers with a space before each, and the line feed
abbrev pub longest : ℕ
longest = 137

-- the letter, a space and the name
pub head_printed : (letter at p q r : ℕ) (s : Status) (out out' out'' out''' : List ℕ) → Prints 1 out at (letter ∷ []) out' p
    → Prints 1 out' p (space_byte ∷ []) out'' q → Prints most_letters out'' q (name_text s) out''' r → Prints 10 out at (head_text letter s) out''' r
head_printed letter at p q r s out out' out'' out''' a b d = prints_then (prints_then a b) d

-- ── a line ──

module _ (out out' out'' out''' : List ℕ) (at p q r : ℕ) where
  pub line_printed : (letter : ℕ) (l : Line) → Prints 10 out at (head_text letter l.status) out' p
      → Prints (number_bytes * length (numbers_in l)) out' p (numbers_text (numbers_in l)) out'' q → Prints 1 out'' q (line_feed ∷ []) out''' r
      → Prints longest out at (line_text letter l) out''' r
  unfolding line_text
  line_printed letter l a b d = prints_as refl (omega arith) (prints_then a (prints_then b d))

  pub bad_printed : (number : ℕ) → Prints 1 out at (63 ∷ []) out' p → Prints (number_bytes * length (number ∷ [])) out' p (numbers_text (number ∷ [])) out'' q
      → Prints 1 out'' q (line_feed ∷ []) out''' r → Prints longest out at (bad_text number) out''' r
  unfolding bad_text
  bad_printed number a b d = prints_as refl (omega arith) (prints_then a (prints_then b d))

module _ (letter : ℕ) (reply : Reply) (number : ℕ) (out out' : List ℕ) (at r : ℕ) where
  pub reply_said : (l : Line) → reply ≡ Said l → Prints longest out at (line_text letter l) out' r → Prints longest out at (reply_text letter reply number) out' r
  unfolding reply_text
  reply_said l e p = rw e p

  pub reply_last : (l : Line) → reply ≡ Last l → Prints longest out at (line_text letter l) out' r → Prints longest out at (reply_text letter reply number) out' r
  unfolding reply_text
  reply_last l e p = rw e p

  pub reply_bad : reply ≡ Bad → Prints longest out at (bad_text number) out' r → Prints longest out at (reply_text letter reply number) out' r
  unfolding reply_text
  reply_bad e p = rw e p

pub reply_quiet : (letter : ℕ) (reply : Reply) (number : ℕ) (out : List ℕ) (at : ℕ) → reply ≡ Quiet → Prints longest out at (reply_text letter reply number) out at
unfolding reply_text
reply_quiet letter reply number out at e = rw e (prints_none longest out at)
