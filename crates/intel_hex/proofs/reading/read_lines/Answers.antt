use Rattle.intel_hex.proofs.LineTexts.{not_framed, not_digits, lines_sum_off, lines_whole}
use Rattle.intel_hex.proofs.TextReading.{has_least}
use Rattle.intel_hex.proofs.DigitReading.{front_digits, part_digits}
use Rattle.intel_hex.proofs.reading.read_lines.Goals as goal

pub returns-then-not-has_lines_framed : goal.returns-then-not-has_lines_framed
returns-then-not-has_lines_framed c = search (not_framed)

pub digits_of-digits-requires : goal.digits_of-digits-requires
digits_of-digits-requires c = search (has_least)

pub returns-then-not-read_values : goal.returns-then-not-read_values
returns-then-not-read_values c = search (not_digits)

pub returns-then-data-rest-ne0 : goal.returns-then-data-rest-ne0
returns-then-data-rest-ne0 c = search (lines_sum_off)

pub returns : goal.returns
returns c = search (lines_whole)

pub read_bytes-data-requires-clause-digits : goal.read_bytes-data-requires-clause-digits
read_bytes-data-requires-clause-digits c = search (front_digits)

pub read_bytes-rest-requires-clause-digits : goal.read_bytes-rest-requires-clause-digits
read_bytes-rest-requires-clause-digits c = search (part_digits)
