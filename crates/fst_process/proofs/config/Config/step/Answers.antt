use Rattle.std.proofs.Math.Logic.{∥∥₁_map}
use Rattle.std.proofs.lemmas.Result.{on_ok_weaker}
use Rattle.fst_process.specs.KeptOf.{kept_of}
use Rattle.fst_process.proofs.FireLocal.{local_can, local_happens}
use Rattle.fst_process.proofs.config.Config.step.Goals as goal

pub go_on-requires : goal.go_on-requires
go_on-requires c = ∥∥₁_map c.requires (local_can c.args.code.now (kept_of c.args.self.now) c.args.path.now)

pub returns : goal.returns
returns c =
    on_ok_weaker c.go_on.result (local_happens c.args.code.now (kept_of c.args.self.now) c.args.path.now
    (kept_of c.go_on.new.self)) c.go_on.ensures
