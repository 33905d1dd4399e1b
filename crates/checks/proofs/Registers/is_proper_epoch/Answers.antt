use Rattle.checks.proofs.Testing.{epoch_late, epoch_ahead}
use Rattle.checks.proofs.Registers.is_proper_epoch.Goals as goal

pub returns-then-self-gt-LAST_EPOCH : goal.returns-then-self-gt-LAST_EPOCH
returns-then-self-gt-LAST_EPOCH c = search (epoch_late)

pub returns : goal.returns
returns c = search (epoch_ahead)
