use Rattle.intel_hex.proofs.DigitReading.{figure_read, letter_read, none_read}
use Rattle.intel_hex.proofs.digits.read_character.Goals as goal

pub returns-then-figure-lt-FIGURES : goal.returns-then-figure-lt-FIGURES
returns-then-figure-lt-FIGURES c = search (figure_read)

pub returns-then-letter-lt-LETTERS : goal.returns-then-letter-lt-LETTERS
returns-then-letter-lt-LETTERS c = search (letter_read)

pub returns : goal.returns
returns c = search (none_read)
