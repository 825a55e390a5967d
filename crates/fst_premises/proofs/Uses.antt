-- The values of a type have one use.
use Rattle.std.proofs.Common.{◌≡◌, ◌∙◌, List, ap, sym}
use Rattle.fst_types.specs.Tree.{Tree}
use Rattle.fst_types.specs.declared.kind.Kind.{Kind}
use Rattle.fst_types.specs.declared.kind.Use.{Use}
use Rattle.fst_types.specs.declared.kind.Use.TheVariants.{Many, Once}
use Rattle.fst_kinds.proofs.Laws.{one_kind}
use Rattle.fst_derivations.specs.Parts.{HasUse}

pub one_use : (vars : List Kind) (t : Tree) (n m : Use) → HasUse vars t n → HasUse vars t m → n ≡ m
one_use vars t n m a b = sym a.is ∙ ap (λ (k : Kind). k.uses) (one_kind vars t a.kind b.kind a.formed.kinded b.formed.kinded)
    ∙ b.is

-- what may be used once can't be used often
pub not_many : (vars : List Kind) (t : Tree) (n : Use) → HasUse vars t n → HasUse vars t Many → n ≡ Once → ⊥
not_many vars t n a b e = let wrong : Once ≡ Many = sym e ∙ one_use vars t n Many a b in cc
