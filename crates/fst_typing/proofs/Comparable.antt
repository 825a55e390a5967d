-- Types that are compared by their order are known to be equal to themselves.
use Rattle.std.proofs.Common.{inl, inr, ℕ, subst, sym}
use Rattle.fst_types.specs.Tree.{Tree}
use Rattle.fst_equiv.specs.Comparison.{IsComparison}
use Rattle.fst_equiv.specs.declared.comparing.Same.TheVariants.{Yes}
use Rattle.fst_instances.proofs.Laws.{equal_itself}
use Rattle.fst_derivations.specs.Parts.{IsComparable, IsFormed}
use Rattle.fst_premises.specs.Checks.{Check}
use Rattle.fst_typing.specs.Typed.{IsKnown}

compares_itself : (budget : ℕ) (s : Tree) → IsComparable s → IsComparison s s budget Yes
compares_itself budget s (inl e) = subst (λ o. IsComparison o o budget Yes) (sym e) tt
compares_itself budget s (inr e) = subst (λ o. IsComparison o o budget Yes) (sym e) tt

pub known_itself : (c : Check) (s : Tree) → IsFormed c.surroundings.vars s → IsComparable s → IsKnown c s s
known_itself c s f o = record {
  conversion = record { left = f; right = f; equal = equal_itself c.surroundings.vars s f.0 f.1 };
  yes = compares_itself c.budget s o;
}
