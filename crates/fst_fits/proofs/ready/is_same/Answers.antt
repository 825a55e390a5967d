use Rattle.fst_fits.proofs.TestLaws.{same_answer}
use Rattle.fst_fits.proofs.ready.is_same.Goals as goal

pub returns : goal.returns
returns c = same_answer c.same.result c.args.a.now c.args.b.now c.same.ensures
