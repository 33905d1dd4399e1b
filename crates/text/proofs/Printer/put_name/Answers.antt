use Rattle.text.specs.Printing.{name_printed}
use Rattle.text.proofs.Printer.put_name.Goals as goal

pub returns : goal.returns
returns c = search (name_printed)
