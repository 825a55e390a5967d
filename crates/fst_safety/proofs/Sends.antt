-- A task may cross threads: a struct is taken by its fields.
use denote.Struct.Declared.{shape}
use denote.Param.Send.{IsSend, recorded_send, struct_send, view_send, sendable}
use Rattle.std.proofs.Crossing.{crosses}
use Rattle.fst_types.proofs.ty.Ty.TheLaws.TheKnot as types
use Rattle.atomic_table.proofs.owned.Table.TheSendSync as table
use Rattle.atomic_table.proofs.shared.Seat.TheSendSync as seat
use Rattle.fst_cell.proofs.content.Standing.TheSendSync as standing
use Rattle.fst_cell.proofs.entries.Entries.TheSendSync as entries
use Rattle.fst_types.proofs.path.Path.TheSendSync as path
use Rattle.fst_vm.proofs.task.Task.TheSendSync as task
use Rattle.fst_cell.specs.contracts.end.End as end
use Rattle.fst_cell.specs.contracts.end.End.TheInside as inside
use Rattle.fst_safety.proofs.tasks.KeptEntry.TheSendSync as entry
use Rattle.fst_safety.specs.contracts.tasks.TypedTask as typed_task

ruleset known = (sendable, crosses, types.crosses, path.the_send)

-- what a cell has
ruleset cells = (
  table.the_field_send,
  table.the_field_sync,
  seat.the_send,
  standing.the_field_send,
  entries.the_send,
)

-- an end
inside_send : IsSend inside.the_row
inside_send = recorded_send _ _ (inside.the_type).to (inside.the_type).to_one (struct_send (shape inside.the_type) (
  search (known, cells) depth 30,
  (
    search known depth 30,
    (
      search known depth 30,
      (
        search known depth 30,
        (
          search known depth 30,
          tt,
        ),
      ),
    ),
  ),
))

end_send : IsSend end.the_row
end_send = view_send _ _ _ _ _ inside_send

-- a task
pub typed_task_send : IsSend typed_task.the_row
typed_task_send = recorded_send _ _ (typed_task.the_type).to (typed_task.the_type).to_one
    (struct_send (shape typed_task.the_type) (
      search known depth 30,
      (
        search (known, task.the_send) depth 30,
        (
          search (known, end_send) depth 30,
          (
            search (known, end_send) depth 30,
            (
              search known depth 30,
              (
                search (known, entry.the_send) depth 30,
                (
                  search known depth 30,
                  tt,
                ),
              ),
            ),
          ),
        ),
      ),
    ))
