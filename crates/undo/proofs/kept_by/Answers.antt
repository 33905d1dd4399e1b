use Rattle.undo.proofs.Reading.{kept_early, kept_late}
use Rattle.undo.proofs.kept_by.Goals as goal

pub returns-then-kept-gt0-clause-dropped : goal.returns-then-kept-gt0-clause-dropped
returns-then-kept-gt0-clause-dropped c = search (kept_early)

pub returns-clause-dropped : goal.returns-clause-dropped
returns-clause-dropped c = search (kept_late)
