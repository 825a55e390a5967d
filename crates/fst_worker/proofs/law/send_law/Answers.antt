use denote.Param.Send.{sendable}
use Rattle.fst_worker.proofs.Sends.{share_send}
use Rattle.fst_worker.proofs.law.send_law.Goals as goal

pub goes_to_threads-requires-send-T : goal.goes_to_threads-requires-send-T
goes_to_threads-requires-send-T c κs = search (sendable, share_send) depth 10
