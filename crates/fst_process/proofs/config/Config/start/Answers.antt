use Rattle.std.proofs.Math.Logic.{∥∥₁_map}
use Rattle.fst_process.specs.KeptOf.{kept_of}
use Rattle.fst_process.proofs.FireStart.{start_next, start_begun}
use Rattle.fst_process.proofs.config.Config.start.Goals as goal

pub settle-requires : goal.settle-requires
settle-requires c = ∥∥₁_map c.requires (start_next c.args.code.now c.in_ok-task.task c.in_ok-task.ensures)

pub returns-clause-begun : goal.returns-clause-begun
returns-clause-begun c =
    start_begun c.args.code.now c.in_ok-task.task (kept_of c.empty-config.result)
    (kept_of c.settle.new.self) c.empty-config.ensures.nothing c.in_ok-task.ensures c.in_ok-settle.ensures.settles
