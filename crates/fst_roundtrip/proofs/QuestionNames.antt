-- The variables of a question as it is written, and what its types stand for among them.
use Rattle.std.proofs.Common.{◌≡◌, ◌∙◌, ℕ, zero, suc, ◌+◌, ◌<◌, ◌≤◌, ◌^◌, List, [], ◌∷◌, ◌++◌, length, map, Option, Some, None, refl, sym, ap, arith}
use Rattle.std.specs.Prelude.{option_map, unwrap_or}
use Rattle.std.proofs.lemmas.List.Elements.{All-nil, All-cons}
use Rattle.fst_base.proofs.Options.{mapped_some}
use Rattle.fst_types.specs.Tree as tree
use Rattle.fst_types.specs.Tree.{Tree, Branches}
use Rattle.fst_types.specs.WrittenTree as written
use Rattle.fst_types.specs.WrittenTree.{WrittenTree, WrittenBranches}
use Rattle.fst_types.specs.declared.kind.Kind.{Kind}
use Rattle.fst_terms.specs.declared.binder.Binder.{Binder}
use Rattle.fst_terms.specs.Arranged.{insert}
use Rattle.fst_terms.specs.Naming.{Scope, place_of, or_else, both, type_of, branches_of}
use Rattle.fst_scopes.specs.Faults.{unless_there, unbound, unbound_in}
use Rattle.fst_scopes.specs.Twice.{names, twice_after, variables}
use Rattle.fst_type_print.specs.Texts.{variable_text, variables_text}
use Rattle.fst_print.specs.ModuleTexts.{binder_kind_text}
use Rattle.fst_roundtrip.specs.ReadBack.{variable_names}
use Rattle.fst_roundtrip.proofs.Numbered.{variable_lower, differ, apart}
use Rattle.fst_roundtrip.proofs.Showable.{IsLowerName}
use Rattle.fst_roundtrip.proofs.ShownBinders.{AreVariables, unplaced_variable}
use Rattle.fst_roundtrip.proofs.UpperLabels.{both_some}

-- variables with these kinds, by their numbers from the k-th on
abbrev pub numbered_variables : ℕ → List Kind → List (Binder × Kind)
numbered_variables k [] = []
numbered_variables k (kind ∷ kinds) = (record { name = variable_text k; at = 0 }, kind) ∷ numbered_variables (suc k) kinds

-- they are written so
pub numbered_texts : (k : ℕ) (kinds : List Kind) → map binder_kind_text (numbered_variables k kinds) ≡ variables_text k kinds
numbered_texts k [] = refl
numbered_texts k (kind ∷ kinds) = ap
    (λ (texts : List (List ℕ)). binder_kind_text (record { name = variable_text k; at = 0 }, kind) ∷ texts)
    (numbered_texts (suc k) kinds)

pub numbered_lower : (k : ℕ) (kinds : List Kind) → k + length kinds < 2 ^ 64 → AreVariables (numbered_variables k kinds)
numbered_lower k [] few = All-nil (λ (b : Binder × Kind). IsLowerName b.0.name)
numbered_lower k (kind ∷ kinds) few = All-cons
    (λ (b : Binder × Kind). IsLowerName b.0.name) (record { name = variable_text k; at = 0 }, kind)
    (numbered_variables (suc k) kinds) (variable_lower k (omega arith)) (numbered_lower (suc k) kinds (omega arith))

numbered_names : (k : ℕ) (kinds : List Kind) → names (variables (numbered_variables k kinds)) ≡ variable_names k (length kinds)
numbered_names k [] = refl
numbered_names k (kind ∷ kinds) = ap (λ (xs : List (List ℕ)). variable_text k ∷ xs) (numbered_names (suc k) kinds)

numbered_kinds : (k : ℕ) (kinds : List Kind) → map (λ (b : Binder × Kind). b.1) (numbered_variables k kinds) ≡ kinds
numbered_kinds k [] = refl
numbered_kinds k (kind ∷ kinds) = ap (λ (ks : List Kind). kind ∷ ks) (numbered_kinds (suc k) kinds)

unplaced_names : (bs : List (Binder × Kind)) → names (variables (map unplaced_variable bs)) ≡ names (variables bs)
unplaced_names [] = refl
unplaced_names (b ∷ bs) = ap (λ (xs : List (List ℕ)). b.0.name ∷ xs) (unplaced_names bs)

unplaced_kinds : (bs : List (Binder × Kind)) → map (λ (b : Binder × Kind). b.1) (map unplaced_variable bs) ≡ map
    (λ (b : Binder × Kind). b.1) bs
unplaced_kinds [] = refl
unplaced_kinds (b ∷ bs) = ap (λ (ks : List Kind). b.1 ∷ ks) (unplaced_kinds bs)

-- variables that are these but for their places have their names and kinds
pub same_names : (bs : List (Binder × Kind)) (kinds : List Kind) → map unplaced_variable bs ≡ map unplaced_variable
    (numbered_variables 0 kinds) → names (variables bs) ≡ variable_names 0 (length kinds)
same_names bs kinds e =
    let vs = numbered_variables 0 kinds in
    sym (unplaced_names bs) ∙ (ap (λ (cs : List (Binder × Kind)). names (variables cs)) e
    ∙ (unplaced_names vs ∙ numbered_names 0 kinds))

pub same_kinds : (bs : List (Binder × Kind)) (kinds : List Kind) → map unplaced_variable bs ≡ map unplaced_variable
    (numbered_variables 0 kinds) → kinds ≡ map (λ (b : Binder × Kind). b.1) bs
same_kinds bs kinds e =
    let vs = numbered_variables 0 kinds in
    sym (numbered_kinds 0 kinds) ∙ (sym (unplaced_kinds vs) ∙ (ap (map (λ (b : Binder × Kind). b.1)) (sym e) ∙ unplaced_kinds bs))

-- a later variable is none of these
later : (m j k : ℕ) → j + m ≤ k → k + 1 < 2 ^ 64 → place_of (variable_names j m) (variable_text k) ≡ None
later zero j k behind few = refl
later (suc m) j k behind few =
    let inner = later m (suc j) k (omega arith) few in
    rw (differ (variable_text k) (variable_text j) (apart _ k j few (omega arith) (λ e. omega (arith, e))), inner) refl

one_more : (m j : ℕ) → variable_names j m ++ variable_text (j + m) ∷ [] ≡ variable_names j (suc m)
one_more zero j = rw (let same : j + 0 ≡ j = omega arith in same) refl
one_more (suc m) j =
    let same : j + suc m ≡ suc j + m = omega arith in
    rw same (ap (λ (xs : List (List ℕ)). variable_text j ∷ xs) (one_more m (suc j)))

-- variables with such names are different
pub all_once : (bs : List Binder) (k m : ℕ) → names bs ≡ variable_names k m → k + m < 2 ^ 64 →
    twice_after (variable_names 0 k) bs ≡ []
all_once [] k m e few = refl
all_once (b ∷ bs) k zero e few = absurd (cc e)
all_once (b ∷ bs) k (suc m) e few =
    let head : b.name ≡ variable_text k = cc in
    let tail : names bs ≡ variable_names (suc k) m = cc in
    let new : place_of (variable_names 0 k) (variable_text k) ≡ None = later k 0 k (omega arith) (omega arith) in
    let front : variable_names 0 k ++ variable_text k ∷ [] ≡ variable_names 0 (suc k) =
    ap (λ n. variable_names 0 k ++ variable_text n ∷ []) (let same : k ≡ 0 + k = omega arith in same) ∙ one_more k 0 in
    rw (head, new, front) (all_once bs (suc k) m tail (omega arith))

-- in scope are these names of `rec`s and of variables, and another name stands for this, if for anything
abbrev pub scope : List (List ℕ) → List (List ℕ) → Option Tree → Scope
scope recs vars other = record { recs = recs; vars = vars; declared = λ x. None; otherwise = other }

-- no name is unbound, and what a name that is stood for makes no difference
pub record IsBound (recs vars : List (List ℕ)) (w : WrittenTree) (t : Tree) : Type 0 where
  pub none : unbound (scope recs vars (Some tree.skip)) w ≡ []
  pub means : type_of (scope recs vars (Some tree.skip)) w ≡ Some t

pub record AreBound (recs vars : List (List ℕ)) (ws : WrittenBranches) (bs : Branches) : Type 0 where
  pub none : unbound_in (scope recs vars (Some tree.skip)) ws ≡ []
  pub means : branches_of (scope recs vars (Some tree.skip)) ws ≡ Some bs

name_bound : (at : ℕ) (x : List ℕ) (r v : Option ℕ) (t : Tree) →
    unwrap_or (or_else (option_map (λ k. Some (tree.back k)) r) (or_else (option_map (λ k. Some (tree.var k)) v) None)) None ≡
    Some t →
    (unless_there at x (or_else (option_map (λ k. Some (tree.back k)) r)
    (or_else (option_map (λ k. Some (tree.var k)) v) None)) ≡ []) ×
    (unwrap_or (or_else (option_map (λ k. Some (tree.back k)) r) (or_else (option_map (λ k. Some (tree.var k)) v) None))
    (Some tree.skip) ≡ Some t)
name_bound at x (Some k) v t e = (refl, e)
name_bound at x None (Some k) t e = (refl, e)
name_bound at x None None t e = absurd (cc e)

module _ (vars : List (List ℕ)) where
  mutual
    unfolding both

    -- where each name stands for something, none is unbound
    pub type_bound : (recs : List (List ℕ)) (w : WrittenTree) (t : Tree) → type_of (scope recs vars None) w ≡ Some t →
        IsBound recs vars w t
    type_bound recs (written.skip at) t e = record { none = refl; means = e }
    type_bound recs (written.send at b) t e = record { none = refl; means = e }
    type_bound recs (written.receive at b) t e = record { none = refl; means = e }
    type_bound recs (written.close at) t e = record { none = refl; means = e }
    type_bound recs (written.wait at) t e = record { none = refl; means = e }
    type_bound recs (written.select at ws) t e =
        let m = mapped_some tree.select (branches_of (scope recs vars None) ws) t e in
        let all = branches_bound recs ws m.0 m.1 in
        record { none = all.none; means = rw all.means (ap Some m.2) }
    type_bound recs (written.offer at ws) t e =
        let m = mapped_some tree.offer (branches_of (scope recs vars None) ws) t e in
        let all = branches_bound recs ws m.0 m.1 in
        record { none = all.none; means = rw all.means (ap Some m.2) }
    type_bound recs (written.seq at v w) t e =
        let b = both_some tree.seq (type_of (scope recs vars None) v) (type_of (scope recs vars None) w) t e in
        let first = type_bound recs v b.0 b.2 in
        let second = type_bound recs w b.1 b.3 in
        record { none = rw (first.none, second.none) refl; means = rw (first.means, second.means) (ap Some b.4) }
    type_bound recs (written.rec at x w) t e =
        let m = mapped_some tree.rec (type_of (scope (x ∷ recs) vars None) w) t e in
        let body = type_bound (x ∷ recs) w m.0 m.1 in
        record { none = body.none; means = rw body.means (ap Some m.2) }
    type_bound recs (written.named at x) t e =
        let h = name_bound at x (place_of recs x) (place_of vars x) t e in
        record { none = h.0; means = h.1 }
    type_bound recs (written.plain at b) t e = record { none = refl; means = e }
    type_bound recs (written.arrow at uses v w) t e =
        let b = both_some (tree.arrow uses) (type_of (scope recs vars None) v) (type_of (scope recs vars None) w) t e in
        let first = type_bound recs v b.0 b.2 in
        let second = type_bound recs w b.1 b.3 in
        record { none = rw (first.none, second.none) refl; means = rw (first.means, second.means) (ap Some b.4) }
    type_bound recs (written.pair at v w) t e =
        let b = both_some tree.pair (type_of (scope recs vars None) v) (type_of (scope recs vars None) w) t e in
        let first = type_bound recs v b.0 b.2 in
        let second = type_bound recs w b.1 b.3 in
        record { none = rw (first.none, second.none) refl; means = rw (first.means, second.means) (ap Some b.4) }

    branches_bound : (recs : List (List ℕ)) (ws : WrittenBranches) (bs : Branches) →
        branches_of (scope recs vars None) ws ≡ Some bs → AreBound recs vars ws bs
    branches_bound recs written.none bs e = record { none = refl; means = e }
    branches_bound recs (written.branch l w ws) bs e =
        let b = both_some (insert l) (type_of (scope recs vars None) w) (branches_of (scope recs vars None) ws) bs e in
        let first = type_bound recs w b.0 b.2 in
        let second = branches_bound recs ws b.1 b.3 in
        record { none = rw (first.none, second.none) refl; means = rw (first.means, second.means) (ap Some b.4) }
