use Rattle.transcript.specs.Laws.{taken_some, taken_most}
use Rattle.loomreplay.proofs.Replay.feed.Goals as goal

pub returns-clause-some : goal.returns-clause-some
returns-clause-some g c = taken_some _ _ _ _ _ _ _ _ _ c.feed_bytes-fed.ensures c.self.invariant c.requires

pub returns-clause-most : goal.returns-clause-most
returns-clause-most g c = taken_most _ _ _ _ _ _ _ _ _ c.feed_bytes-fed.ensures
