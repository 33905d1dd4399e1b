use Rattle.intel_hex.proofs.ByteDigits.{gap_figure, gap_letter}
use Rattle.intel_hex.proofs.digits.gap_before.Goals as goal

pub returns-then-n-lt-FIGURES : goal.returns-then-n-lt-FIGURES
returns-then-n-lt-FIGURES c = search (gap_figure)

pub returns : goal.returns
returns c = search (gap_letter)
