use Rattle.picl.proofs.Boards.{recovered_epoch, recover_ready, recovered_within, recovered_answered}
use Rattle.picl.proofs.epochs.power_up_passed.Goals as goal

pub recover-meter-requires : goal.recover-meter-requires
recover-meter-requires c = search (recover_ready)

pub restarted-requires : goal.restarted-requires
restarted-requires c = search (recovered_epoch)

pub finish-requires : goal.finish-requires
finish-requires c = search (recovered_within)

pub returns : goal.returns
returns c = search (recovered_answered)
