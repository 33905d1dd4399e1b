use Rattle.text.proofs.Decimals.{decimal_fits, decimal_printed}
use Rattle.text.proofs.Printer.put_decimal.Goals as goal

pub put-requires : goal.put-requires
put-requires c = search (decimal_fits)

pub returns : goal.returns
returns c = search (decimal_printed)
