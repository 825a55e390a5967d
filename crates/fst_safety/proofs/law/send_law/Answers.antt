use denote.Param.Send.{sendable}
use Rattle.fst_safety.proofs.Sends.{typed_task_send}
use Rattle.fst_safety.proofs.law.send_law.Goals as goal

pub goes_to_threads-requires-send-T : goal.goes_to_threads-requires-send-T
goes_to_threads-requires-send-T c κs = search (sendable, typed_task_send) depth 10
