use Rattle.std.proofs.Common.{rules}
use Rattle.text.specs.Printing.{prints_byte}
use Rattle.text.proofs.Printer.put_byte.Goals as goal

pub returns : goal.returns
returns c = search (rules, prints_byte)
