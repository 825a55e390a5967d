use Rattle.std.proofs.Common.{refl}
use Rattle.fst_worker.proofs.Together.{works}
use Rattle.fst_worker.proofs.rounds.work.Goals as goal

pub returns : goal.returns
returns g c = works c.args.code.now c.args.steps c.args.share.now _ c.run.new.self refl refl refl refl refl c.run.ensures
