use Rattle.fst_premises.proofs.Formed.{formed_sorted}
use Rattle.fst_premises.proofs.parts.use_of.Goals as goal

pub kind_of-requires-clause-sorted : goal.kind_of-requires-clause-sorted
kind_of-requires-clause-sorted c = formed_sorted c.args.vars.now c.args.t.now c.requires
