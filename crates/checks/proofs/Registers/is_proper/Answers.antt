use Rattle.checks.proofs.Testing.{proper_not, epoch_first, epoch_last, proper_unpassed, proper_all}
use Rattle.checks.proofs.Registers.is_proper.Goals as goal

pub returns-then-not-is_proper_epoch : goal.returns-then-not-is_proper_epoch
returns-then-not-is_proper_epoch c = search (proper_not)

pub is_proper_pass-requires : goal.is_proper_pass-requires
is_proper_pass-requires c = record {
  persisted_lt_epoch = search (epoch_first);
  epoch_le_last_epoch = search (epoch_last);
}

pub returns-then-not-is_proper_pass : goal.returns-then-not-is_proper_pass
returns-then-not-is_proper_pass c = search (proper_unpassed)

pub returns : goal.returns
returns c = search (proper_all)
