use Rattle.text.specs.Printing.{prints_copied}
use Rattle.text.proofs.Printer.put.Goals as goal

pub returns : goal.returns
returns c = search (prints_copied)
