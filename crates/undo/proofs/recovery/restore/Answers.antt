use Rattle.undo.proofs.Restoring.{older_named, newer_named, restored}
use Rattle.undo.proofs.recovery.restore.Goals as goal

pub restore_in-newer_restored-requires-clause-named :
    goal.restore_in-newer_restored-requires-clause-named
restore_in-newer_restored-requires-clause-named c = search (newer_named)

pub restore_in-requires-clause-named : goal.restore_in-requires-clause-named
restore_in-requires-clause-named c = search (older_named)

pub returns : goal.returns
returns c = search (restored)
