use Rattle.std.proofs.Common.{◌*◌, take}
use Rattle.text.specs.Text.{number_bytes, numbers_text}
use Rattle.text.specs.Printing.{PrintsOn}
use Rattle.text.proofs.Printer.put_numbers.Given as goal

abbrev pub invariant-loop-number : goal.invariant-loop-number
invariant-loop-number l = PrintsOn (number_bytes * l.number-index) l.initial.self (numbers_text (take l.number-index l.numbers)) l.self
