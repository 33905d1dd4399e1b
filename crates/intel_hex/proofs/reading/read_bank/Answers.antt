use Rattle.intel_hex.proofs.BankTexts.{bank_not_framed, bank_elsewhere, bank_not_digits, bank_sum_off, bank_whole}
use Rattle.intel_hex.proofs.DigitReading.{values_digits}
use Rattle.intel_hex.proofs.reading.read_bank.Goals as goal

pub returns-then-not-is_framed : goal.returns-then-not-is_framed
returns-then-not-is_framed c = search (bank_not_framed)

pub returns-then-not-is_zero_address : goal.returns-then-not-is_zero_address
returns-then-not-is_zero_address c = search (bank_elsewhere)

pub returns-then-not-read_values : goal.returns-then-not-read_values
returns-then-not-read_values c = search (bank_not_digits)

pub returns-then-sum-ne0 : goal.returns-then-sum-ne0
returns-then-sum-ne0 c = search (bank_sum_off)

pub returns : goal.returns
returns c = search (bank_whole)

pub read_bytes-sum-requires-clause-digits : goal.read_bytes-sum-requires-clause-digits
read_bytes-sum-requires-clause-digits c = search (values_digits)
