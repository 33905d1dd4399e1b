use Rattle.std.proofs.Common.{◌≡◌, ◌∙◌, ap, not, false, length, refl, arith}
use Rattle.transcript.specs.Session.{roomy}
use Rattle.transcript.specs.Laws.{ready_roomy}
use Rattle.replaycases.proofs.print.Goals as goal

pub finish-end-requires : goal.finish-end-requires
finish-end-requires c =
    let passed : not c.is_roomy.result ≡ false = rw c.if-not-is_roomy.false in
    let whole : 65536 ≡ length c.feed_bytes-fed.new.out = omega arith in
    ready_roomy _ _ _ _ c.feed_bytes-fed.new.board c.feed_bytes-fed.new.work _ _ _ _ (omega arith) (omega arith) c.feed_bytes-fed.ensures.turns
    refl refl _ (c.is_roomy.ensures ∙ ap (roomy c.feed_bytes-fed.result.session.used) whole) passed
