-- A share may cross threads.
use denote.Struct.Declared.{shape}
use denote.Param.Send.{IsSend, recorded_send, struct_send, sendable}
use Rattle.std.proofs.Crossing.{crosses}
use Rattle.fst_safety.proofs.Laws.{typed_task_send}
use Rattle.fst_worker.specs.contracts.shares.Share as share

ruleset known = (sendable, crosses, typed_task_send)

-- a share is taken by its fields
pub share_send : IsSend share.the_row
share_send = recorded_send _ _ (share.the_type).to (share.the_type).to_one (struct_send (shape share.the_type) (
  search known depth 30,
  (
    search known depth 30,
    (
      search known depth 30,
      (
        search known depth 30,
        (
          search known depth 30,
          (
            search known depth 30,
            tt,
          ),
        ),
      ),
    ),
  ),
))
