use Rattle.steps.proofs.Calls.{store_held_ready, store_held, store_absent_ready, store_brought}
use Rattle.steps.proofs.store.Goals as goal

pub store_held-requires : goal.store_held-requires
store_held-requires c = search (store_held_ready)

pub returns-then-spot : goal.returns-then-spot
returns-then-spot c = search (store_held)

pub store_absent-requires : goal.store_absent-requires
store_absent-requires c = search (store_absent_ready)

pub returns : goal.returns
returns c = search (store_brought, c.requires, c.if-spot.false)
