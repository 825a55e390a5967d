-- The variables of a signature in a written type are among those in scope.
use Rattle.std.proofs.Common.{◌≡◌, ◌∙◌, ℕ, List, ◌∷◌, length, Option, Some, None, refl, ap, subst, arith}
use Rattle.std.specs.Prelude.{option_map, unwrap_or}
use Rattle.std.specs.declared.cmp.Ordering.{Ordering}
use Rattle.std.specs.declared.cmp.Ordering.TheVariants.{Less, Equal, Greater}
use Rattle.std.specs.Ordering.{nat_cmp}
use Rattle.std.specs.Cmp.Lexicographic.{slice_cmp}
use Rattle.std.proofs.lemmas.Option.{same_Some}
use Rattle.fst_base.proofs.Options.{mapped_some}
use Rattle.fst_types.specs.Tree as tree
use Rattle.fst_types.specs.Tree.{Tree, Branches, none, branch}
use Rattle.fst_types.specs.Variables.{HasVariablesBelow, HaveVariablesBelow}
use Rattle.fst_types.specs.WrittenTree as written
use Rattle.fst_types.specs.WrittenTree.{WrittenTree, WrittenBranches, skip, send, receive, close, wait, select, offer, seq, rec, named, plain, arrow, pair}
use Rattle.fst_types.proofs.Laws.{variables_wider}
use Rattle.fst_terms.specs.Arranged.{insert_by, insert}
use Rattle.fst_terms.specs.Naming.{Scope, place_of, or_else, type_of, branches_of}
use Rattle.fst_scopes.specs.Plain.{DeclaresClosed}
use Rattle.fst_scopes.proofs.Plain.{both_some, place_within}

-- a branch in its place
placed_variables : (n : ℕ) (l : List ℕ) (t : Tree) (bs : Branches) → HasVariablesBelow n t → HaveVariablesBelow n bs →
    HaveVariablesBelow n (insert l t bs)
placed_variables n l t none p q = (p, tt)
placed_variables n l t (branch m u bs) p q = by (slice_cmp nat_cmp l m) (placed_variables n l t bs p q.1)
  where
    by : (o : Ordering) → HaveVariablesBelow n (insert l t bs) → HaveVariablesBelow n (insert_by o l t m u bs (insert l t bs))
    by Less r = (p, q)
    by Equal r = (p, q)
    by Greater r = (q.0, r)

module _ (outer : Scope) (all : DeclaresClosed outer) where
  -- these names of `rec`s are in scope, and what else is
  abbrev scope : List (List ℕ) → Scope
  scope names = record { recs = names; vars = outer.vars; declared = outer.declared; otherwise = outer.otherwise }

  -- the variables of a type are among those in scope
  abbrev HasOwn : Tree → Type 0
  HasOwn t = HasVariablesBelow (length outer.vars) t

  name_variables : (names : List (List ℕ)) (x : List ℕ) (t : Tree) (o : Option ℕ) →
      unwrap_or (or_else (option_map (λ k. Some (tree.back k)) o)
      (or_else (option_map (λ k. Some (tree.var k)) (place_of outer.vars x)) (outer.declared x))) outer.otherwise ≡ Some t →
      HasOwn t
  name_variables names x t (Some k) g = subst HasOwn (same_Some (tree.back k) t g) tt
  name_variables names x t None g = of_variable (place_of outer.vars x) refl g
    where
      of_declared : (o : Option (Option Tree)) → outer.declared x ≡ o → unwrap_or o outer.otherwise ≡ Some t → HasOwn t
      of_declared (Some p) d h = variables_wider 0 (length outer.vars) t (omega arith) (all.declared x t (d ∙ ap Some h))
      of_declared None d h = variables_wider 0 (length outer.vars) t (omega arith) (all.otherwise t h)

      of_variable : (o : Option ℕ) → place_of outer.vars x ≡ o →
          unwrap_or (or_else (option_map (λ k. Some (tree.var k)) o) (outer.declared x)) outer.otherwise ≡ Some t → HasOwn t
      of_variable (Some k) is g = subst HasOwn (same_Some (tree.var k) t g) (place_within outer.vars x k is)
      of_variable None is g = of_declared (outer.declared x) refl g

  mutual
    type_variables : (names : List (List ℕ)) (w : WrittenTree) (t : Tree) → type_of (scope names) w ≡ Some t → HasOwn t
    type_variables names (skip at) t e = subst HasOwn (same_Some tree.skip t e) tt
    type_variables names (send at b) t e = subst HasOwn (same_Some (tree.send b) t e) tt
    type_variables names (receive at b) t e = subst HasOwn (same_Some (tree.receive b) t e) tt
    type_variables names (close at) t e = subst HasOwn (same_Some tree.close t e) tt
    type_variables names (wait at) t e = subst HasOwn (same_Some tree.wait t e) tt
    type_variables names (select at ws) t e =
        let m = mapped_some tree.select (branches_of (scope names) ws) t e in
        subst HasOwn m.2 (branches_variables names ws m.0 m.1)
    type_variables names (offer at ws) t e =
        let m = mapped_some tree.offer (branches_of (scope names) ws) t e in
        subst HasOwn m.2 (branches_variables names ws m.0 m.1)
    type_variables names (seq at v w) t e =
        let b = both_some tree.seq (type_of (scope names) v) (type_of (scope names) w) t e in
        subst HasOwn b.4 (type_variables names v b.0 b.2, type_variables names w b.1 b.3)
    type_variables names (rec at x w) t e =
        let m = mapped_some tree.rec (type_of (scope (x ∷ names)) w) t e in
        subst HasOwn m.2 (type_variables (x ∷ names) w m.0 m.1)
    type_variables names (named at x) t e = name_variables names x t (place_of names x) e
    type_variables names (plain at b) t e = subst HasOwn (same_Some (tree.plain b) t e) tt
    type_variables names (arrow at u v w) t e =
        let b = both_some (tree.arrow u) (type_of (scope names) v) (type_of (scope names) w) t e in
        subst HasOwn b.4 (type_variables names v b.0 b.2, type_variables names w b.1 b.3)
    type_variables names (pair at v w) t e =
        let b = both_some tree.pair (type_of (scope names) v) (type_of (scope names) w) t e in
        subst HasOwn b.4 (type_variables names v b.0 b.2, type_variables names w b.1 b.3)

    branches_variables : (names : List (List ℕ)) (ws : WrittenBranches) (bs : Branches) → branches_of (scope names) ws ≡ Some bs →
        HaveVariablesBelow (length outer.vars) bs
    branches_variables names written.none bs e = subst (HaveVariablesBelow (length outer.vars)) (same_Some none bs e) tt
    branches_variables names (written.branch l w ws) bs e =
        let b = both_some (insert l) (type_of (scope names) w) (branches_of (scope names) ws) bs e in
        subst (HaveVariablesBelow (length outer.vars)) b.4
        (placed_variables (length outer.vars) l b.0 b.1 (type_variables names w b.0 b.2)
        (branches_variables names ws b.1 b.3))

-- so it is in any scope in which what is declared has none
pub variables_below : (s : Scope) (w : WrittenTree) (t : Tree) → DeclaresClosed s → type_of s w ≡ Some t →
    HasVariablesBelow (length s.vars) t
variables_below s w t all e = type_variables s all s.recs w t e
