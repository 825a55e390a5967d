use Rattle.fst_derivations.specs.Parts.{IsConversion, IsAnyConversion}
use Rattle.fst_derivations.proofs.Weaker.{bare_over, derives_more}
use Rattle.fst_derivations.proofs.law.derivations_law.Goals as goal

pub returns-clause-plain : goal.returns-clause-plain
returns-clause-plain c = λ m e g u d x. bare_over m (IsConversion m.vars) e g u d x

pub returns-clause-shaped : goal.returns-clause-shaped
returns-clause-shaped c = λ m e g u d x. derives_more m (IsConversion m.vars) (IsAnyConversion m.vars)
    (λ s t y. record { left = y.left; right = y.right }) e g u d x
