-- The term of a name that isn't that of a variable.
use Rattle.std.proofs.Common.{◌≡◌, ℕ, List, [], ◌∷◌, Option, Some, None, refl, sym}
use Rattle.fst_types.specs.WrittenTree.{WrittenTree}
use Rattle.fst_terms.specs.CoreTree as core
use Rattle.fst_terms.specs.Naming.{place_of}
use Rattle.fst_term_names.specs.CoreTerms.{Numbers, from, name_term, number}
use Rattle.fst_term_faults.specs.TermFaults.{name_faults}

-- where it is no fault it is that of a global
pub global_there : (locals globals : List (List ℕ)) (at : ℕ) (x : List ℕ) (ws : List WrittenTree) →
    name_faults locals globals at x ws ≡ [] → (ws ≡ [] → place_of locals x ≡ None) → place_of globals x ≡ None → ⊥
global_there locals globals at x [] none no_local no_global = absurd (cc (no_local refl, no_global))
global_there locals globals at x (w ∷ ws) none no_local no_global = absurd (cc (no_global))

-- and then it is the use of this global
pub global_is : (s : Numbers) (n at : ℕ) (x : List ℕ) (ws : List WrittenTree) (o : Option ℕ) (k j : ℕ) (ks : List ℕ) →
    (ws ≡ [] → o ≡ None) → place_of s.globals x ≡ Some k → j ≡ k → ks ≡ from n ws → core.global at j ks ≡ name_term s n at x ws o
global_is s n at x [] None k j ks no_local is same are = let at_it : number (place_of s.globals x) ≡ j = cc in
    λ i. core.global at (sym at_it i) (are i)
global_is s n at x [] (Some l) k j ks no_local is same are = absurd (cc (no_local refl))
global_is s n at x (w ∷ ws) o k j ks no_local is same are = let at_it : number (place_of s.globals x) ≡ j = cc in
    λ i. core.global at (sym at_it i) (are i)
