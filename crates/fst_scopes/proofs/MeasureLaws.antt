-- What is counted of written types is counted of the types that they stand for.
use Rattle.std.proofs.Common.{◌≡◌, ◌∙◌, ℕ, ◌+◌, ◌≤◌, min, List, ◌∷◌, length, drop, Option, Some, None, refl, sym, ap, arith}
use Rattle.std.specs.Prelude.{option_map, unwrap_or, if◌then◌else◌}
use Rattle.std.specs.declared.cmp.Ordering.{Ordering}
use Rattle.std.specs.declared.cmp.Ordering.TheVariants.{Less, Equal, Greater}
use Rattle.std.specs.Ordering.{nat_cmp}
use Rattle.std.specs.Cmp.Lexicographic.{slice_cmp}
use Rattle.std.proofs.lemmas.List.{at_drop_all}
use Rattle.fst_types.specs.ModelWrittenView.{written_branches}
use Rattle.fst_types.specs.declared.written.WrittenBranch.{WrittenBranch}
use Rattle.fst_types.specs.Size.{nodes, nodes_all}
use Rattle.fst_types.specs.Tree as tree
use Rattle.fst_types.specs.Tree.{Tree, Branches}
use Rattle.fst_types.specs.WrittenTree.{WrittenTree, WrittenBranches, skip, send, receive, close, wait, select, offer, seq, rec, named, plain, arrow, pair, none, branch}
use Rattle.fst_terms.specs.Arranged.{insert, insert_by}
use Rattle.fst_terms.specs.Naming.{Scope, place_of, or_else, is_there, both, type_of, branches_of}
use Rattle.fst_scopes.specs.declared.measure.Measure.{Measure}
use Rattle.fst_scopes.specs.Measures.{measured, ceiling, leaf, node, node_of, function_of, measure, measure_all}
use Rattle.fst_scopes.proofs.ScopeLaws.{standing_outside, inside}

-- a branch in its place adds its nodes
pub insert_nodes : (l : List ℕ) (t : Tree) (bs : Branches) → nodes_all (insert l t bs) ≡ nodes t + 1 + nodes_all bs
insert_nodes l t tree.none = refl
insert_nodes l t (tree.branch m u bs) = by (slice_cmp nat_cmp l m) (insert_nodes l t bs)
  where
    by : (o : Ordering) → nodes_all (insert l t bs) ≡ nodes t + 1 + nodes_all bs →
        nodes_all (insert_by o l t m u bs (insert l t bs)) ≡ nodes t + 1 + (nodes u + 1 + nodes_all bs)
    by Less e = refl
    by Equal e = refl
    by Greater e = omega (arith, e)

-- what is counted of branches
abbrev counted_all : Branches → ℕ
counted_all bs = min (nodes_all bs) ceiling

same_measure : (a b : Measure) → a.nodes ≡ b.nodes → a.arrows ≡ b.arrows → a ≡ b
same_measure a b one two = λ i. record { nodes = one i; arrows = two i }

-- the nodes of branches are counted to the ceiling
pub capped_all : (recs : List (List ℕ)) (m : List ℕ → Option Measure) (bs : WrittenBranches) → option_map
    (λ n. min (0 + n) ceiling) (measure_all recs m bs) ≡ measure_all recs m bs
unfolding both
capped_all recs m none = ap Some (omega arith)
capped_all recs m (branch l t bs) = capped (measure recs m t) (measure_all recs m bs)
  where
    capped : (a : Option Measure) (o : Option ℕ) →
        option_map (λ n. min (0 + n) ceiling) (both (λ (a : Measure) n. min (a.nodes + 1 + n) ceiling) a o) ≡ both
        (λ (a : Measure) n. min (a.nodes + 1 + n) ceiling) a o
    capped (Some a) (Some n) = ap Some (omega arith)
    capped (Some a) None = refl
    capped None o = refl

-- so many nodes, and no branch behind them
pub counted_last : (recs : List (List ℕ)) (m : List ℕ → Option Measure) (bs : List WrittenBranch) (i total : ℕ) (o : Option ℕ) →
    length bs ≤ i → total ≤ ceiling →
    option_map (λ k. min (total + k) ceiling) (measure_all recs m (written_branches (drop i bs))) ≡ o → Some total ≡ o
counted_last recs m bs i total o end fits e =
    ap Some (omega (arith, fits)) ∙ sym (at_drop_all
    (λ (z : List WrittenBranch). option_map (λ k. min (total + k) ceiling) (measure_all recs m (written_branches z))) bs i
    end) ∙ e

module _ {A B C : Type 0} {X Y Z : Type 0} (f : A → B → C) (g : X → Y → Z) (p : A → X) (q : B → Y) (r : C → Z)
    (same : (a : A) (b : B) → g (p a) (q b) ≡ r (f a b)) where
  -- what is counted of two parts is counted of the whole
  both_counted : (a : Option A) (b : Option B) → both g (option_map p a) (option_map q b) ≡ option_map r (both f a b)
  unfolding both
  both_counted (Some a) (Some b) = ap Some (same a b)
  both_counted (Some a) None = refl
  both_counted None b = refl

module _ {A C : Type 0} {X Z : Type 0} (f : A → C) (g : X → Z) (p : A → X) (r : C → Z) (same : (a : A) → g (p a) ≡ r (f a)) where
  one_counted : (a : Option A) → option_map g (option_map p a) ≡ option_map r (option_map f a)
  one_counted (Some a) = ap Some (same a)
  one_counted None = refl

pair_counted : (a b : Tree) → node_of (measured a) (measured b) ≡ measured (tree.pair a b)
pair_counted a b = same_measure _ _ (omega arith) refl

seq_counted : (a b : Tree) → node_of (measured a) (measured b) ≡ measured (tree.seq a b)
seq_counted a b = same_measure _ _ (omega arith) refl

module _ (outer : Scope) (m : List ℕ → Option Measure)
    (same : (x : List ℕ) → m x ≡ option_map measured (unwrap_or (standing_outside outer x) outer.otherwise)) where
  mutual
    -- what is counted of a type that is written
    pub measured_is : (recs : List (List ℕ)) (w : WrittenTree) →
        measure recs m w ≡ option_map measured (type_of (inside recs outer) w)
    measured_is recs (skip at) = refl
    measured_is recs (send at b) = refl
    measured_is recs (receive at b) = refl
    measured_is recs (close at) = refl
    measured_is recs (wait at) = refl
    measured_is recs (select at bs) = ap (option_map node) (measured_all recs bs)
        ∙ one_counted tree.select node counted_all measured
        (λ a. same_measure _ _ (omega arith) refl) (branches_of (inside recs outer) bs)
    measured_is recs (offer at bs) = ap (option_map node) (measured_all recs bs)
        ∙ one_counted tree.offer node counted_all measured
        (λ a. same_measure _ _ (omega arith) refl) (branches_of (inside recs outer) bs)
    measured_is recs (seq at t u) =
        (λ i. both node_of (measured_is recs t i) (measured_is recs u i))
        ∙ both_counted tree.seq node_of measured measured measured seq_counted (type_of (inside recs outer) t)
        (type_of (inside recs outer) u)
    measured_is recs (rec at x t) =
        ap (option_map (λ a. node a.nodes)) (measured_is (x ∷ recs) t) ∙ one_counted tree.rec
        (λ (a : Measure). node a.nodes) measured measured
        (λ a. same_measure _ _ (omega arith) refl) (type_of (inside (x ∷ recs) outer) t)
    measured_is recs (named at x) = pick (place_of recs x)
      where
        pick : (o : Option ℕ) → (if is_there o then Some leaf else m x) ≡ option_map measured
            (unwrap_or (or_else (option_map (λ k. Some (tree.back k)) o) (standing_outside outer x)) outer.otherwise)
        pick (Some k) = refl
        pick None = same x
    measured_is recs (plain at b) = refl
    measured_is recs (arrow at uses t u) =
        (λ i. both function_of (measured_is recs t i) (measured_is recs u i)) ∙
        both_counted (tree.arrow uses) function_of measured measured measured
        (λ a b. same_measure _ _ (omega arith) (omega arith)) (type_of (inside recs outer) t) (type_of (inside recs outer) u)
    measured_is recs (pair at t u) =
        (λ i. both node_of (measured_is recs t i) (measured_is recs u i))
        ∙ both_counted tree.pair node_of measured measured measured pair_counted (type_of (inside recs outer) t)
        (type_of (inside recs outer) u)

    measured_all : (recs : List (List ℕ)) (bs : WrittenBranches) →
        measure_all recs m bs ≡ option_map counted_all (branches_of (inside recs outer) bs)
    measured_all recs none = refl
    measured_all recs (branch l t bs) =
        (λ i. both (λ a n. min (a.nodes + 1 + n) ceiling) (measured_is recs t i) (measured_all recs bs i)) ∙
        both_counted (insert l) (λ (a : Measure) n. min (a.nodes + 1 + n) ceiling) measured counted_all counted_all
        (λ a b. let e = insert_nodes l a b in omega (arith, e)) (type_of (inside recs outer) t)
        (branches_of (inside recs outer) bs)
