-- A type that offers branches moves by one of them.
use Rattle.std.proofs.Common.{◌≡◌, ℕ, List, [], ◌∷◌, Option, Some, None, refl, sym, subst}
use Rattle.std.specs.Prelude.{Contains, IsSome, map}
use Rattle.fst_types.specs.Tree.{Tree}
use Rattle.fst_types.specs.declared.label.Label.{Label}
use Rattle.fst_types.specs.declared.label.Label.TheVariants.{Offer}
use Rattle.fst_base.proofs.Lists.{contains_head}
use Rattle.fst_lts.specs.Step.{step, labels}
use Rattle.fst_lts.proofs.Laws.{labels_are_moves}
use Rattle.fst_derivations.specs.Parts.{IsOffering}

first_offer : (ls : List Label) (names : List (List ℕ)) → ls ≡ map Offer names → (names ≡ [] → ⊥) →
    (l : List ℕ) × Contains ls (Offer l)
first_offer ls [] e h = absurd (h refl)
first_offer ls (l ∷ names) e h = (
  l,
  subst (λ w. Contains w (Offer l)) (sym e)
      (contains_head (map Offer names) (Offer l) (Offer l) refl),
)

-- a type that offers branches moves by one of them
pub offering_moves : (s : Tree) (names : List (List ℕ)) → IsOffering s names → (l : List ℕ) × (t : Tree) ×
    (step s (Offer l) ≡ Some t)
offering_moves s names h = pick (first_offer (labels s) names h.labels h.some)
  where
    found : (l : List ℕ) (o : Option Tree) → step s (Offer l) ≡ o → IsSome o → (l : List ℕ) × (t : Tree) ×
        (step s (Offer l) ≡ Some t)
    found l None e i = absurd (cc i)
    found l (Some t) e i = (l, t, e)

    pick : (l : List ℕ) × Contains (labels s) (Offer l) → (l : List ℕ) × (t : Tree) × (step s (Offer l) ≡ Some t)
    pick f = found f.0 (step s (Offer f.0)) refl ((labels_are_moves s (Offer f.0)).0 f.1)
