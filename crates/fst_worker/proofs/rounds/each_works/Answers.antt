use denote.Param.Send.{sendable}
use Rattle.fst_worker.proofs.Sends.{share_send}
use Rattle.fst_worker.proofs.rounds.each_works.Goals as goal

pub for_each_mut-requires-send-T : goal.for_each_mut-requires-send-T
for_each_mut-requires-send-T g c κs within = search (sendable, share_send) depth 10
