use Rattle.fst_derivations.specs.Parts.{IsConversion}
use Rattle.fst_derivations.proofs.Plainly.{derived_is_plain}
use Rattle.fst_derivations.proofs.law.plain_derivation_law.Goals as goal

pub returns : goal.returns
returns c = λ m L e g u d q x. derived_is_plain m (IsConversion m.vars) L e g u d q x
