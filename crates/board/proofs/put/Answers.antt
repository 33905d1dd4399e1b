use Rattle.board.specs.Laws.{ran_cut, ran_made}
use Rattle.board.proofs.put.Goals as goal

pub returns-then-meter-le1 : goal.returns-then-meter-le1
returns-then-meter-le1 c = search (ran_cut)

pub returns : goal.returns
returns c = search (ran_made)
