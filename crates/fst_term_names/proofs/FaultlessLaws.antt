-- What has no faults has none in any of its parts.
use Rattle.std.proofs.Common.{◌≡◌, ◌∙◌, ℕ, zero, suc, ◌<◌, List, [], ◌∷◌, ◌++◌, length, get_or, refl, sym, ap, arith}
use Rattle.fst_types.specs.WrittenTree.{WrittenTree}
use Rattle.fst_terms.specs.Naming.{Scope}
use Rattle.fst_scopes.specs.declared.fault.NameFault.{NameFault}
use Rattle.fst_scopes.specs.Faults.{type_faults}
use Rattle.fst_scopes.proofs.Laws.{none_named}
use Rattle.fst_term_faults.specs.TermFaults.{types_faults}

-- of some things without faults each has none
pub all_none : {A : Type 0} (faults : A → List NameFault) (all : List A → List NameFault) →
    ((x : A) (xs : List A) → all (x ∷ xs) ≡ faults x ++ all xs) →
    (xs : List A) (i : ℕ) (d : A) → all xs ≡ [] → i < length xs → faults (get_or xs i d) ≡ []
all_none faults all split [] i d none low = absurd (omega arith)
all_none faults all split (x ∷ xs) zero d none low = (none_named (faults x) (all xs) (sym (split x xs) ∙ none)).0
all_none faults all split (x ∷ xs) (suc i) d none low =
    let low' : i < length xs = omega arith in
    all_none faults all split xs i d ((none_named (faults x) (all xs) (sym (split x xs) ∙ none)).1) low'

-- of some types
pub type_none : (s : Scope) (ws : List WrittenTree) (i : ℕ) (w : WrittenTree) → types_faults s ws ≡ [] → i < length ws →
    w ≡ get_or ws i w → type_faults s w ≡ []
type_none s ws i w none low is = ap (type_faults s) is ∙ all_none (type_faults s) (types_faults s) (λ x xs. refl) ws i w none low
