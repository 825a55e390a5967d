use Rattle.std.proofs.Common.{refl}
use Rattle.fst_basis.proofs.checking.is_proof.Goals as goal

pub is_basis-requires-clause-pairs : goal.is_basis-requires-clause-pairs
is_basis-requires-clause-pairs c = (c.if-not-is_within.ensures.0 refl).pairs
