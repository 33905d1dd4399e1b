use Rattle.capi.proofs.Imports.{reader_kept, reader_put_holds}
use Rattle.capi.proofs.importing.put_reader.Goals as goal

pub returns-then-number-ne-OK : goal.returns-then-number-ne-OK
returns-then-number-ne-OK c = search (reader_kept)

pub returns : goal.returns
returns c = search (reader_put_holds)
