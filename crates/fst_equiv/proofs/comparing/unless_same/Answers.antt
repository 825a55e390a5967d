use Rattle.std.proofs.Common.{sym, subst}
use Rattle.fst_equiv.specs.Comparison.{differing, unless_same, ComesTo}
use Rattle.fst_equiv.specs.declared.comparing.Same.TheVariants.{Shape}
use Rattle.fst_equiv.proofs.ComparisonLaws.{only_one}
use Rattle.fst_equiv.proofs.comparing.unless_same.Goals as goal

pub returns-else-is_same : goal.returns-else-is_same
returns-else-is_same c budget = subst (λ b. ComesTo (unless_same b) budget Shape) (sym c.if-is_same.false)
    (only_one budget differing)
