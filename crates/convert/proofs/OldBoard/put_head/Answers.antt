use Rattle.std.proofs.Common.{◌≡◌, length}
use Rattle.std.specs.Prelude.{replicate}
use Rattle.convert.proofs.Filling.{head_put}
use Rattle.convert.proofs.OldBoard.put_head.Goals as goal

pub returns : goal.returns
returns c =
    let zero : c.fill.new.self ≡ replicate (length c.args.head.now) 0 = c.fill.ensures.after (λ y same. same) in
    search (head_put)
