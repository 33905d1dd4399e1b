use Rattle.std.proofs.Common.{◌≡◌, ◌+◌, refl, true, false, rules}
use native.Mathlib.Omega.{arith}
use borrow.Author.Tests.{tests}
use Rattle.std.proofs.lemmas.Iterator.{cases_from_all, YieldsList-from_range}
use Rattle.layout.specs.Limits.{ways}
use Rattle.slots.specs.Slots.{dirty_at}
use Rattle.slots.proofs.Dirty.{all_told}
use Rattle.slots.proofs.sets.is_all_dirty.Goals as goal

pub returns : goal.returns
returns c =
    all_told (dirty_at c.args.work.now) c.args.first c.all.result
    (cases_from_all _ _ _ (λ x. dirty_at c.args.work.now x ≡ true) (λ x. dirty_at c.args.work.now x ≡ false) c.all.ensures.ran
    (YieldsList-from_range c.args.first (c.args.first + ways) ways refl (omega arith)) (λ x q k. search (rules, tests)) (λ x q k. search (rules, tests)))
