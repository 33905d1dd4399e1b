use Rattle.replay.specs.Laws.{request_refused, request_ready}
use Rattle.replay.proofs.perform_request.Goals as goal

pub returns-in-Some : goal.returns-in-Some
returns-in-Some c = search (request_ready)

pub returns-in-None : goal.returns-in-None
returns-in-None c = search (request_refused)
