-- An unfolding is as well formed as the type, of the same kind.
use Rattle.std.proofs.Common.{◌≡◌, ℕ, List, [], ◌∷◌, Bool, true, false, Some, refl, subst}
use Rattle.fst_types.specs.Tree.{Tree, rec}
use Rattle.fst_types.specs.declared.kind.Kind.{Kind}
use Rattle.fst_types.specs.declared.kind.Prekind.TheVariants.{Session}
use Rattle.fst_types.specs.Substitution.{unfolding_of}
use Rattle.fst_types.specs.Scoped.{IsScoped}
use Rattle.fst_types.proofs.Laws.{unfolding_of_scoped, unfolding_of_ordered}
use Rattle.fst_kinds.specs.Kinds.{session, use_below, HasKind}
use Rattle.fst_kinds.specs.Contractive.{guards, IsContractive}
use Rattle.fst_kinds.specs.WellFormed.{IsWellFormed}
use Rattle.fst_kinds.proofs.SubstitutedKinds.{use_antisymmetric, below_itself, join_itself, used, substitute_kind}
use Rattle.fst_kinds.proofs.SubstitutedGuards.{unguarded_scoped, substitute_contractive}
use Rattle.fst_kinds.specs.OpenSession.{GuardsTo}

-- a kind with the prekind of session types, as the kind of a session type
pub session_of : (k : Kind) → k.prekind ≡ Session → k ≡ session k.uses
session_of k e = λ i. record { prekind = e i; uses = k.uses }

-- an unfolding has exactly the kind of the type
pub unfolding_of_kind : (vars : List Kind) (s : Tree) (k : Kind) → HasKind vars (rec s) k → HasKind vars (unfolding_of s) k
unfolding_of_kind vars s k h =
    let whole : HasKind vars (rec s) (session k.uses) = subst (λ j. HasKind vars (rec s) j) (session_of k h.1) h in
    let found = substitute_kind vars k.uses (Some (rec s) ∷ []) s k ((k.uses, whole, below_itself k.uses), tt) h.0 in
    let within : use_below found.0 k.uses ≡ true = subst (λ u. use_below found.0 u ≡ true) (join_itself k.uses) found.3 in
    subst (λ u. HasKind vars (unfolding_of s) (used k u)) (use_antisymmetric found.0 k.uses within found.2) found.1

-- an unfolding of a contractive session type is contractive
pub unfolding_of_contractive : (vars : List Kind) (s : Tree) (k : Kind) → HasKind vars (rec s) k → IsScoped 0 (rec s) →
    IsContractive (rec s) → IsContractive (unfolding_of s)
unfolding_of_contractive vars s k h o c = pick (guards s) refl
  where
    put : (n : ℕ) → GuardsTo n (Some (rec s) ∷ []) → IsScoped n s → IsContractive (unfolding_of s)
    put n g l = substitute_contractive n (Some (rec s) ∷ []) s g (o, tt) (c, tt) l c.0

    pick : (b : Bool) → guards s ≡ b → IsContractive (unfolding_of s)
    pick true is = put 1 (is, tt) o
    pick false is = put 0 tt (unguarded_scoped vars 0 s k.uses (subst (λ j. HasKind vars s j) (session_of k h.1) h.0) is)

-- an unfolding of a well-formed type is well formed, of the same kind
pub unfolding_of_well_formed : (vars : List Kind) (s : Tree) (k : Kind) → IsWellFormed vars (rec s) k →
    IsWellFormed vars (unfolding_of s) k
unfolding_of_well_formed vars s k w = record {
  kinded = unfolding_of_kind vars s k w.kinded;
  contractive = unfolding_of_contractive vars s k w.kinded w.scoped w.contractive;
  scoped = unfolding_of_scoped s w.scoped;
  ordered = unfolding_of_ordered s w.ordered;
}
