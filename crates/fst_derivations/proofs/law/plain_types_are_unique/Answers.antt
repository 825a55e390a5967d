use Rattle.fst_derivations.specs.Parts.{IsConversion}
use Rattle.fst_derivations.proofs.Unique.{unique}
use Rattle.fst_derivations.proofs.law.plain_types_are_unique.Goals as goal

pub returns : goal.returns
returns c = λ m. unique m (IsConversion m.vars)
