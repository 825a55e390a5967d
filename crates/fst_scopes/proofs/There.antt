-- That a written type stands for a type, and how high it is then.
use Rattle.std.proofs.Common.{◌≡◌, ◌≤◌, ℕ, List, ◌∷◌, Option, Some, None, refl, subst, arith}
use Rattle.std.specs.Prelude.{IsSome, option_map, unwrap_or}
use Rattle.fst_base.proofs.Options.{mapped_some, mapped_there}
use Rattle.fst_types.specs.ModelWrittenHeight.{height, height_all}
use Rattle.fst_types.specs.Size.{nodes, nodes_all}
use Rattle.fst_types.specs.Tree as tree
use Rattle.fst_types.specs.Tree.{Tree, Branches}
use Rattle.fst_types.specs.WrittenTree.{WrittenTree, WrittenBranches, skip, send, receive, close, wait, select, offer, seq, rec, named, plain, arrow, pair, none, branch}
use Rattle.fst_terms.specs.Arranged.{insert}
use Rattle.fst_terms.specs.Naming.{Scope, within, place_of, or_else, both, type_of, branches_of}
use Rattle.fst_scopes.proofs.MeasureLaws.{insert_nodes}
use Rattle.fst_scopes.proofs.Plain.{both_some}
use Rattle.fst_scopes.proofs.ScopeLaws.{inside}

both_here : {A B C : Type 0} (f : A → B → C) (o : Option A) (p : Option B) → IsSome o → IsSome p → IsSome (both f o p)
unfolding both
both_here f (Some x) (Some y) h k = refl
both_here f (Some x) None h k = absurd (cc k)
both_here f None p h k = absurd (cc h)

module _ (outer : Scope) (all : (x : List ℕ) → IsSome (unwrap_or (outer.declared x) outer.otherwise)) where
  name_there : (x : List ℕ) (r v : Option ℕ) → IsSome
      (unwrap_or (or_else (option_map (λ k. Some (tree.back k)) r)
      (or_else (option_map (λ k. Some (tree.var k)) v) (outer.declared x))) outer.otherwise)
  name_there x (Some k) v = refl
  name_there x None (Some k) = refl
  name_there x None None = all x

  mutual
    -- where each name stands for something, each type does
    pub type_there : (recs : List (List ℕ)) (w : WrittenTree) → IsSome (type_of (inside recs outer) w)
    type_there recs (skip at) = refl
    type_there recs (send at b) = refl
    type_there recs (receive at b) = refl
    type_there recs (close at) = refl
    type_there recs (wait at) = refl
    type_there recs (select at bs) = mapped_there tree.select (branches_of (inside recs outer) bs) (branches_there recs bs)
    type_there recs (offer at bs) = mapped_there tree.offer (branches_of (inside recs outer) bs) (branches_there recs bs)
    type_there recs (seq at t u) = both_here tree.seq (type_of (inside recs outer) t) (type_of (inside recs outer) u)
        (type_there recs t) (type_there recs u)
    type_there recs (rec at x t) = mapped_there tree.rec (type_of (inside (x ∷ recs) outer) t) (type_there (x ∷ recs) t)
    type_there recs (named at x) = name_there x (place_of recs x) (place_of outer.vars x)
    type_there recs (plain at b) = refl
    type_there recs (arrow at uses t u) = both_here (tree.arrow uses) (type_of (inside recs outer) t)
        (type_of (inside recs outer) u) (type_there recs t) (type_there recs u)
    type_there recs (pair at t u) = both_here tree.pair (type_of (inside recs outer) t) (type_of (inside recs outer) u)
        (type_there recs t) (type_there recs u)

    branches_there : (recs : List (List ℕ)) (bs : WrittenBranches) → IsSome (branches_of (inside recs outer) bs)
    branches_there recs none = refl
    branches_there recs (branch l t bs) = both_here (insert l) (type_of (inside recs outer) t)
        (branches_of (inside recs outer) bs) (type_there recs t) (branches_there recs bs)

some_node : (t : Tree) → 1 ≤ nodes t
some_node tree.skip = omega arith
some_node (tree.send b) = omega arith
some_node (tree.receive b) = omega arith
some_node tree.close = omega arith
some_node tree.wait = omega arith
some_node (tree.select bs) = omega arith
some_node (tree.offer bs) = omega arith
some_node (tree.seq t u) = omega arith
some_node (tree.rec t) = omega arith
some_node (tree.back k) = omega arith
some_node (tree.var k) = omega arith
some_node (tree.plain b) = omega arith
some_node (tree.arrow uses t u) = omega arith
some_node (tree.pair t u) = omega arith
some_node (tree.named k) = omega arith

mutual
  -- a written type is no higher than what it stands for has nodes
  pub no_higher : (s : Scope) (w : WrittenTree) (t : Tree) → type_of s w ≡ Some t → height w ≤ nodes t
  no_higher s (skip at) t e = some_node t
  no_higher s (send at b) t e = some_node t
  no_higher s (receive at b) t e = some_node t
  no_higher s (close at) t e = some_node t
  no_higher s (wait at) t e = some_node t
  no_higher s (select at bs) t e =
      let m = mapped_some tree.select (branches_of s bs) t e in
      let low = branches_no_higher s bs m.0 m.1 in
      subst (λ z. height (select at bs) ≤ nodes z) m.2 (omega (arith, low))
  no_higher s (offer at bs) t e =
      let m = mapped_some tree.offer (branches_of s bs) t e in
      let low = branches_no_higher s bs m.0 m.1 in
      subst (λ z. height (offer at bs) ≤ nodes z) m.2 (omega (arith, low))
  no_higher s (seq at v w) t e =
      let b = both_some tree.seq (type_of s v) (type_of s w) t e in
      let one = no_higher s v b.0 b.2 in
      let two = no_higher s w b.1 b.3 in
      subst (λ z. height (seq at v w) ≤ nodes z) b.4 (omega (arith, one, two))
  no_higher s (rec at x w) t e =
      let m = mapped_some tree.rec (type_of (within x s) w) t e in
      let low = no_higher (within x s) w m.0 m.1 in
      subst (λ z. height (rec at x w) ≤ nodes z) m.2 (omega (arith, low))
  no_higher s (named at x) t e = some_node t
  no_higher s (plain at b) t e = some_node t
  no_higher s (arrow at uses v w) t e =
      let b = both_some (tree.arrow uses) (type_of s v) (type_of s w) t e in
      let one = no_higher s v b.0 b.2 in
      let two = no_higher s w b.1 b.3 in
      subst (λ z. height (arrow at uses v w) ≤ nodes z) b.4 (omega (arith, one, two))
  no_higher s (pair at v w) t e =
      let b = both_some tree.pair (type_of s v) (type_of s w) t e in
      let one = no_higher s v b.0 b.2 in
      let two = no_higher s w b.1 b.3 in
      subst (λ z. height (pair at v w) ≤ nodes z) b.4 (omega (arith, one, two))

  branches_no_higher : (s : Scope) (ws : WrittenBranches) (bs : Branches) → branches_of s ws ≡ Some bs →
      height_all ws ≤ nodes_all bs
  branches_no_higher s none bs e = omega arith
  branches_no_higher s (branch l w ws) bs e =
      let b = both_some (insert l) (type_of s w) (branches_of s ws) bs e in
      let one = no_higher s w b.0 b.2 in
      let two = branches_no_higher s ws b.1 b.3 in
      let all = insert_nodes l b.0 b.1 in
      subst (λ z. height_all (branch l w ws) ≤ nodes_all z) b.4 (omega (arith, one, two, all))
