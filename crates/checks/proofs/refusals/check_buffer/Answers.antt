use Rattle.checks.proofs.Rows.{buffer_passed, buffer_unmarked, buffer_refused}
use Rattle.checks.proofs.refusals.check_buffer.Goals as goal

pub returns-then-is_buffer_sound : goal.returns-then-is_buffer_sound
returns-then-is_buffer_sound c = search (buffer_passed)

pub returns-then-is_buffer_proper : goal.returns-then-is_buffer_proper
returns-then-is_buffer_proper c = rw c.from.ensures (search (buffer_unmarked))

pub returns : goal.returns
returns c = rw c.from-2.ensures (search (buffer_refused))
