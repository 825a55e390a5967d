use Rattle.std.proofs.Common.{rules}
use Rattle.std.proofs.lemmas.Iterator.Search.{any_from_yields_List}
use Rattle.std.proofs.lemmas.Iterator.{YieldsList-from_slice}
use Rattle.fst_worker.proofs.rounds.some_moved.Goals as goal

pub returns : goal.returns
returns c = any_from_yields_List _ _ _ _ c.any.ensures.ran (YieldsList-from_slice c.args.shares.now cc) (λ x b q k. search rules)
