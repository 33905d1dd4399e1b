use Rattle.std.proofs.Common.{rules}
use Rattle.text.specs.Printing.{numbers_start, numbers_next, numbers_done}
use Rattle.text.proofs.Printer.put_numbers.Goals as goal

pub loop-number-init : goal.loop-number-init
loop-number-init c = search (rules, numbers_start)

pub loop-number-preserved : goal.loop-number-preserved
loop-number-preserved c = search (rules, numbers_next)

pub returns : goal.returns
returns c = search (numbers_done)
