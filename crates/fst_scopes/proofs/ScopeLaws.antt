-- Scopes in which the same names are bound.
use Rattle.std.proofs.Common.{◌≡◌, ℕ, List, ◌∷◌, ◌++◌, Option, Some, None, refl}
use Rattle.std.specs.Prelude.{option_map}
use Rattle.fst_types.specs.Tree as tree
use Rattle.fst_types.specs.Tree.{Tree}
use Rattle.fst_types.specs.WrittenTree.{WrittenTree, WrittenBranches, skip, send, receive, close, wait, select, offer, seq, rec, named, plain, arrow, pair, none, branch}
use Rattle.fst_terms.specs.Naming.{Scope, place_of, or_else, is_there}
use Rattle.fst_scopes.specs.Faults.{unless_there, unbound, unbound_in}

-- what stands for a name that no `rec` binds
abbrev pub standing_outside : Scope → List ℕ → Option (Option Tree)
standing_outside s x = or_else (option_map (λ k. Some (tree.var k)) (place_of s.vars x)) (s.declared x)

-- a scope with these names of `rec`s
abbrev pub inside : List (List ℕ) → Scope → Scope
inside recs s = record { recs = recs; vars = s.vars; declared = s.declared; otherwise = s.otherwise }

same_there : {A : Type 0} (at : ℕ) (x : List ℕ) (o p : Option A) → is_there o ≡ is_there p →
    unless_there at x o ≡ unless_there at x p
same_there at x (Some a) (Some b) e = refl
same_there at x (Some a) None e = absurd (cc e)
same_there at x None (Some b) e = absurd (cc e)
same_there at x None None e = refl

module _ (s z : Scope) (same : (x : List ℕ) → is_there (standing_outside s x) ≡ is_there (standing_outside z x)) where
  same_name : (at : ℕ) (x : List ℕ) (r : Option ℕ) →
      unless_there at x (or_else (option_map (λ k. Some (tree.back k)) r) (standing_outside s x)) ≡ unless_there at x
      (or_else (option_map (λ k. Some (tree.back k)) r) (standing_outside z x))
  same_name at x (Some k) = refl
  same_name at x None = same_there at x (standing_outside s x) (standing_outside z x) (same x)

  mutual
    -- the same names aren't in scope
    pub same_unbound : (recs : List (List ℕ)) (w : WrittenTree) → unbound (inside recs s) w ≡ unbound (inside recs z) w
    same_unbound recs (skip at) = refl
    same_unbound recs (send at b) = refl
    same_unbound recs (receive at b) = refl
    same_unbound recs (close at) = refl
    same_unbound recs (wait at) = refl
    same_unbound recs (select at bs) = same_unbound_in recs bs
    same_unbound recs (offer at bs) = same_unbound_in recs bs
    same_unbound recs (seq at t u) = λ i. same_unbound recs t i ++ same_unbound recs u i
    same_unbound recs (rec at x t) = same_unbound (x ∷ recs) t
    same_unbound recs (named at x) = same_name at x (place_of recs x)
    same_unbound recs (plain at b) = refl
    same_unbound recs (arrow at uses t u) = λ i. same_unbound recs t i ++ same_unbound recs u i
    same_unbound recs (pair at t u) = λ i. same_unbound recs t i ++ same_unbound recs u i

    same_unbound_in : (recs : List (List ℕ)) (bs : WrittenBranches) →
        unbound_in (inside recs s) bs ≡ unbound_in (inside recs z) bs
    same_unbound_in recs none = refl
    same_unbound_in recs (branch l t bs) = λ i. same_unbound recs t i ++ same_unbound_in recs bs i
