use Rattle.std.proofs.Math.Logic.{∥∥₁_map}
use Rattle.fst_process.specs.KeptOf.{kept_of}
use Rattle.fst_process.proofs.Restoring.{have_next, is_resumed}
use Rattle.fst_process.proofs.config.Config.resumed.Goals as goal

pub settle_all-requires : goal.settle_all-requires
settle_all-requires c = ∥∥₁_map c.requires (have_next c.args.code.now c.args.tasks.items c.args.channels.items)

pub returns-clause-resumed : goal.returns-clause-resumed
returns-clause-resumed c =
    is_resumed c.args.code.now c.args.tasks.items c.args.channels.items (kept_of c.empty-config.result)
    (kept_of c.restore.new.self) (kept_of c.settle_all.new.self)
    c.empty-config.ensures.nothing c.in_ok-restore.ensures.restored c.in_ok-settle_all.ensures.settled
