use Rattle.benchboard.specs.Sizes.{board_within, work_within}
use Rattle.loomtrace.proofs.sizes.Goals as goal

pub returns-in-Format-clause-board : goal.returns-in-Format-clause-board
returns-in-Format-clause-board g c = board_within c.in-Format.lines c.in-Format.entries c.in-Format.slots (cc)

pub returns-in-Format-clause-work : goal.returns-in-Format-clause-work
returns-in-Format-clause-work g c = work_within c.in-Format.lines c.in-Format.entries c.in-Format.slots (cc)
