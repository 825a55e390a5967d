-- How many parts a row has, and a row below conversions.
use Rattle.std.proofs.Common.{◌≡◌, ◌∙◌, refl, ap, sym, List, [], ◌∷◌, Vec, Global, Bool, true, Some, None, length}
use Rattle.std.specs.Prelude.{if◌then◌else◌}
use Rattle.fst_types.specs.Tree.{Tree}
use Rattle.fst_types.specs.declared.kind.Kind.{Kind}
use Rattle.fst_fits.specs.Tests.{has_some, kind_in}
use Rattle.fst_rules.specs.Walks.{parts_1, parts_2, parts_3, peeled}
use Rattle.fst_derivations.specs.Deriv.{deriv_of, parts_of}
use Rattle.fst_derivations.specs.declared.derivation.Derivation.{Derivation}
use Rattle.fst_derivations.specs.declared.derivation.Derivation.TheViews.{Row}
use Rattle.fst_derivations.proofs.Laws.{is_row}

pub no_one : (xs : List Derivation) → (length xs ≡ 1 → ⊥) → None ≡ parts_1 (parts_of xs)
no_one [] f = refl
no_one (x ∷ []) f = absurd (f refl)
no_one (x ∷ y ∷ xs) f = refl

pub no_two : (xs : List Derivation) → (length xs ≡ 2 → ⊥) → None ≡ parts_2 (parts_of xs)
no_two [] f = refl
no_two (x ∷ []) f = refl
no_two (x ∷ y ∷ []) f = absurd (f refl)
no_two (x ∷ y ∷ z ∷ xs) f = refl

pub no_three : (xs : List Derivation) → (length xs ≡ 3 → ⊥) → None ≡ parts_3 (parts_of xs)
no_three [] f = refl
no_three (x ∷ []) f = refl
no_three (x ∷ y ∷ []) f = refl
no_three (x ∷ y ∷ z ∷ []) f = absurd (f refl)
no_three (x ∷ y ∷ z ∷ w ∷ xs) f = refl

pub row_peeled : (vars : List Kind) (t : Tree) (v : Vec Derivation Global) (below : Derivation) (ps : List Derivation)
    (b : Bool) →
    below ≡ Row t v → ps ≡ v.items → b ≡ has_some (kind_in vars t) → b ≡ true →
    Some (t, parts_of ps) ≡ peeled vars (deriv_of below)
row_peeled vars t v below ps b e i h f =
    (λ j. Some (t, parts_of (i j)))
    ∙ ap (λ c. if c then Some (t, parts_of v.items) else None) (sym f ∙ h)
    ∙ ap (peeled vars) (sym (is_row t v)) ∙ ap (λ d. peeled vars (deriv_of d)) (sym e)
