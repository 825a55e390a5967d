-- The types that are written are sorted, and each of their variables has its binder.
use Rattle.std.proofs.Common.{◌≡◌, ◌∙◌, ℕ, suc, ◌<◌, List, [], ◌∷◌, length, Bool, true, false, Option, Some, None, refl, sym, ap, subst, arith}
use Rattle.std.specs.Prelude.{option_map, unwrap_or, if◌then◌else◌, ◌≢◌, ⊤}
use Rattle.std.specs.Str.{bytes_eq}
use Rattle.std.specs.declared.cmp.Ordering.{Ordering}
use Rattle.std.specs.declared.cmp.Ordering.TheVariants.{Less, Equal, Greater}
use Rattle.std.specs.Ordering.{nat_cmp, ordering_reverse}
use Rattle.std.specs.Cmp.Lexicographic.{slice_cmp}
use Rattle.std.proofs.lemmas.Cmp.{nat_list_cmp_total}
use Rattle.std.proofs.lemmas.Option.{same_Some}
use Rattle.fst_types.specs.Tree as tree
use Rattle.fst_types.specs.Tree.{Tree, Branches, none, branch}
use Rattle.fst_types.specs.WrittenTree as written
use Rattle.fst_types.specs.WrittenTree.{WrittenTree, WrittenBranches, skip, send, receive, close, wait, select, offer, seq, rec, named, plain, arrow, pair, HasBranches, HaveBranches}
use Rattle.fst_types.specs.Order.{IsSorted, AreSorted, EachChoiceBelow}
use Rattle.fst_types.specs.Scoped.{IsScoped, AllScoped}
use Rattle.fst_terms.specs.Arranged.{insert_by, insert}
use Rattle.fst_terms.specs.Naming.{Scope, place_of, or_else, both, type_of, branches_of}
use Rattle.fst_types.specs.Named.{IsNamedWithin, AllNamedWithin}
use Rattle.fst_types.proofs.Laws.{scoped_wider}
use Rattle.fst_scopes.specs.Plain.{IsPlain, AllPlain}
use Rattle.fst_base.proofs.Options.{mapped_some}

-- what makes a value together is there
pub both_some : {A B C : Type 0} (f : A → B → C) (o : Option A) (p : Option B) (z : C) → both f o p ≡ Some z → (x : A) × (y : B) ×
    (o ≡ Some x) × (p ≡ Some y) × (f x y ≡ z)
unfolding both
both_some f (Some x) (Some y) z e = (x, y, refl, refl, same_Some (f x y) z e)
both_some f (Some x) None z e = absurd cc
both_some f None p z e = absurd cc

-- a binder that was found is one of those around
pub place_within : (names : List (List ℕ)) (x : List ℕ) (k : ℕ) → place_of names x ≡ Some k → k < length names
place_within [] x k e = absurd cc
place_within (y ∷ names) x k e = pick (bytes_eq x y) (place_of names x) (place_within names x) e
  where
    pick : (same : Bool) (o : Option ℕ) → ((j : ℕ) → o ≡ Some j → j < length names) →
        (if same then Some 0 else option_map suc o) ≡ Some k → k < length (y ∷ names)
    pick true o outer e = let is = same_Some 0 k e in omega (arith, is)
    pick false None outer e = absurd cc
    pick false (Some j) outer e = let is = same_Some (suc j) k e in omega (arith, outer j refl, is)

-- ---- branches in their places

placed_scoped : (n : ℕ) (l : List ℕ) (t : Tree) (bs : Branches) → IsScoped n t → AllScoped n bs → AllScoped n (insert l t bs)
placed_scoped n l t none p q = (p, tt)
placed_scoped n l t (branch m u bs) p q = by (slice_cmp nat_cmp l m) (placed_scoped n l t bs p q.1)
  where
    by : (o : Ordering) → AllScoped n (insert l t bs) → AllScoped n (insert_by o l t m u bs (insert l t bs))
    by Less r = (p, q)
    by Equal r = (p, q)
    by Greater r = (q.0, r)

placed_named : (n : ℕ) (l : List ℕ) (t : Tree) (bs : Branches) → IsNamedWithin n t → AllNamedWithin n bs →
    AllNamedWithin n (insert l t bs)
placed_named n l t none p q = (p, tt)
placed_named n l t (branch m u bs) p q = by (slice_cmp nat_cmp l m) (placed_named n l t bs p q.1)
  where
    by : (o : Ordering) → AllNamedWithin n (insert l t bs) → AllNamedWithin n (insert_by o l t m u bs (insert l t bs))
    by Less r = (p, q)
    by Equal r = (p, q)
    by Greater r = (q.0, r)

placed_below : (l : List ℕ) (t : Tree) (bs : Branches) → IsSorted t → EachChoiceBelow AreSorted bs →
    EachChoiceBelow AreSorted (insert l t bs)
placed_below l t none p q = (p, tt)
placed_below l t (branch m u bs) p q = by (slice_cmp nat_cmp l m) (placed_below l t bs p q.1)
  where
    by : (o : Ordering) → EachChoiceBelow AreSorted (insert l t bs) →
        EachChoiceBelow AreSorted (insert_by o l t m u bs (insert l t bs))
    by Less r = (p, q)
    by Equal r = (p, q)
    by Greater r = (q.0, r)

-- no label comes after the next one, where there are any
abbrev InOrder : Branches → Type 0
InOrder none = ⊤
InOrder (branch l t bs) = AreSorted (branch l t bs)

-- labels stand the other way round
turned : (l m : List ℕ) (o : Ordering) → slice_cmp nat_cmp l m ≡ o → slice_cmp nat_cmp m l ≡ ordering_reverse o
turned l m o e = nat_list_cmp_total.antisymm m l ∙ ap ordering_reverse e

isnt_greater : (o p : Ordering) → o ≡ p → (p ≡ Greater → ⊥) → o ≢ Greater
isnt_greater o p e n = λ g. n (sym e ∙ g)

-- a branch that may stand before another and before the first of some may stand before these with the other in its place
before_placed : (m : List ℕ) (u : Tree) (l : List ℕ) (t : Tree) (bs : Branches) → slice_cmp nat_cmp m l ≢ Greater →
    AreSorted (branch m u bs) → AreSorted (insert l t bs) → AreSorted (branch m u (insert l t bs))
before_placed m u l t none first sorted all = (first, tt)
before_placed m u l t (branch k v bs) first sorted all = pick (slice_cmp nat_cmp l k) all
  where
    pick : (o : Ordering) → AreSorted (insert_by o l t k v bs (insert l t bs)) →
        AreSorted (branch m u (insert_by o l t k v bs (insert l t bs)))
    pick Less all = (first, all)
    pick Equal all = (first, all)
    pick Greater all = (sorted.0, all)

tail_order : (l : List ℕ) (t : Tree) (bs : Branches) → AreSorted (branch l t bs) → InOrder bs
tail_order l t none sorted = tt
tail_order l t (branch m u bs) sorted = sorted.1

placed_sorted : (l : List ℕ) (t : Tree) (bs : Branches) → InOrder bs → AreSorted (insert l t bs)
placed_sorted l t none sorted = tt
placed_sorted l t (branch m u bs) sorted = pick (slice_cmp nat_cmp l m) refl (placed_sorted l t bs (tail_order m u bs sorted))
  where
    pick : (o : Ordering) → slice_cmp nat_cmp l m ≡ o → AreSorted (insert l t bs) →
        AreSorted (insert_by o l t m u bs (insert l t bs))
    pick Less e behind = (isnt_greater (slice_cmp nat_cmp l m) Less e (λ g. absurd (cc g)), sorted)
    pick Equal e behind = (isnt_greater (slice_cmp nat_cmp l m) Equal e (λ g. absurd (cc g)), sorted)
    pick Greater e behind = before_placed m u l t bs
        (isnt_greater (slice_cmp nat_cmp m l) Less (turned l m Greater e) (λ g. absurd (cc g))) sorted behind

ordered : (bs : Branches) → AreSorted bs → InOrder bs
ordered none sorted = tt
ordered (branch l t bs) sorted = sorted

-- ---- types

record ArePlain (families n : ℕ) (bs : Branches) : Type 0 where
  scoped : AllScoped n bs
  below : EachChoiceBelow AreSorted bs
  order : InOrder bs
  named : AllNamedWithin families bs

-- with further binders around
wider : (families n : ℕ) (t : Tree) → IsPlain families 0 t → IsPlain families n t
wider families n t p = record { scoped = scoped_wider 0 n t (omega arith) p.scoped; sorted = p.sorted; named = p.named }

module _ (families : ℕ) (outer : Scope) (all : AllPlain families outer) where
  -- these names of `rec`s are in scope, and what else is
  abbrev scope : List (List ℕ) → Scope
  scope names = record { recs = names; vars = outer.vars; declared = outer.declared; otherwise = outer.otherwise }

  mutual
    pub type_plain : (names : List (List ℕ)) (w : WrittenTree) (t : Tree) → HasBranches w → type_of (scope names) w ≡ Some t →
        IsPlain families (length names) t
    type_plain names (skip at) t h e = subst (IsPlain families (length names)) (same_Some tree.skip t e)
        (record { scoped = tt; sorted = tt; named = tt })
    type_plain names (send at b) t h e = subst (IsPlain families (length names)) (same_Some (tree.send b) t e)
        (record { scoped = tt; sorted = tt; named = tt })
    type_plain names (receive at b) t h e = subst (IsPlain families (length names)) (same_Some (tree.receive b) t e)
        (record { scoped = tt; sorted = tt; named = tt })
    type_plain names (close at) t h e = subst (IsPlain families (length names)) (same_Some tree.close t e)
        (record { scoped = tt; sorted = tt; named = tt })
    type_plain names (wait at) t h e = subst (IsPlain families (length names)) (same_Some tree.wait t e)
        (record { scoped = tt; sorted = tt; named = tt })
    type_plain names (select at written.none) t h e = absurd h
    type_plain names (select at (written.branch l w ws)) t h e =
        let m = mapped_some tree.select (branches_of (scope names) (written.branch l w ws)) t e in
        let b = both_some (insert l) (type_of (scope names) w) (branches_of (scope names) ws) m.0 m.1 in
        let p = type_plain names w b.0 h.0 b.2 in
        let q = branches_plain names ws b.1 h.1 b.3 in
        subst (IsPlain families (length names)) (ap tree.select b.4 ∙ m.2)
        (record {
          scoped = placed_scoped (length names) l b.0 b.1 p.scoped q.scoped;
          sorted =
              (placed_sorted l b.0 b.1 q.order, placed_below l b.0 b.1 p.sorted q.below);
          named =
              placed_named families l b.0 b.1 p.named q.named;
        })
    type_plain names (offer at written.none) t h e = absurd h
    type_plain names (offer at (written.branch l w ws)) t h e =
        let m = mapped_some tree.offer (branches_of (scope names) (written.branch l w ws)) t e in
        let b = both_some (insert l) (type_of (scope names) w) (branches_of (scope names) ws) m.0 m.1 in
        let p = type_plain names w b.0 h.0 b.2 in
        let q = branches_plain names ws b.1 h.1 b.3 in
        subst (IsPlain families (length names)) (ap tree.offer b.4 ∙ m.2)
        (record {
          scoped = placed_scoped (length names) l b.0 b.1 p.scoped q.scoped;
          sorted =
              (placed_sorted l b.0 b.1 q.order, placed_below l b.0 b.1 p.sorted q.below);
          named =
              placed_named families l b.0 b.1 p.named q.named;
        })
    type_plain names (seq at v w) t h e =
        let b = both_some tree.seq (type_of (scope names) v) (type_of (scope names) w) t e in
        let p = type_plain names v b.0 h.0 b.2 in
        let q = type_plain names w b.1 h.1 b.3 in
        subst (IsPlain families (length names)) b.4
        (record { scoped = (p.scoped, q.scoped); sorted = (p.sorted, q.sorted); named = (p.named, q.named) })
    type_plain names (rec at x w) t h e =
        let m = mapped_some tree.rec (type_of (scope (x ∷ names)) w) t e in
        let p = type_plain (x ∷ names) w m.0 h m.1 in
        subst (IsPlain families (length names)) m.2 (record { scoped = p.scoped; sorted = p.sorted; named = p.named })
    type_plain names (named at x) t h e = of_place (place_of names x) refl e
      where
        of_place : (o : Option ℕ) → place_of names x ≡ o →
            unwrap_or (or_else (option_map (λ k. Some (tree.back k)) o)
            (or_else (option_map (λ k. Some (tree.var k)) (place_of outer.vars x)) (outer.declared x))) outer.otherwise ≡ Some
            t → IsPlain families (length names) t
        of_place (Some k) is g = subst (IsPlain families (length names)) (same_Some (tree.back k) t g)
            (record { scoped = place_within names x k is; sorted = tt; named = tt })
        of_place None is g = of_variable (place_of outer.vars x) g
          where
            of_declared : (o : Option (Option Tree)) → outer.declared x ≡ o → unwrap_or o outer.otherwise ≡ Some t →
                IsPlain families (length names) t
            of_declared (Some p) d h = wider families (length names) t (all.declared x t (d ∙ ap Some h))
            of_declared None d h = wider families (length names) t (all.otherwise t h)

            of_variable : (o : Option ℕ) → unwrap_or (or_else (option_map (λ k. Some (tree.var k)) o) (outer.declared x))
                outer.otherwise ≡ Some t → IsPlain families (length names) t
            of_variable (Some k) g = subst (IsPlain families (length names)) (same_Some (tree.var k) t g)
                (record { scoped = tt; sorted = tt; named = tt })
            of_variable None g = of_declared (outer.declared x) refl g
    type_plain names (plain at b) t h e = subst (IsPlain families (length names)) (same_Some (tree.plain b) t e)
        (record { scoped = tt; sorted = tt; named = tt })
    type_plain names (arrow at u v w) t h e =
        let b = both_some (tree.arrow u) (type_of (scope names) v) (type_of (scope names) w) t e in
        let p = type_plain names v b.0 h.0 b.2 in
        let q = type_plain names w b.1 h.1 b.3 in
        subst (IsPlain families (length names)) b.4
        (record { scoped = (p.scoped, q.scoped); sorted = (p.sorted, q.sorted); named = (p.named, q.named) })
    type_plain names (pair at v w) t h e =
        let b = both_some tree.pair (type_of (scope names) v) (type_of (scope names) w) t e in
        let p = type_plain names v b.0 h.0 b.2 in
        let q = type_plain names w b.1 h.1 b.3 in
        subst (IsPlain families (length names)) b.4
        (record { scoped = (p.scoped, q.scoped); sorted = (p.sorted, q.sorted); named = (p.named, q.named) })

    branches_plain : (names : List (List ℕ)) (ws : WrittenBranches) (bs : Branches) → HaveBranches ws →
        branches_of (scope names) ws ≡ Some bs → ArePlain families (length names) bs
    branches_plain names written.none bs h e = subst (ArePlain families (length names)) (same_Some none bs e)
        (record { scoped = tt; below = tt; order = tt; named = tt })
    branches_plain names (written.branch l w ws) bs h e =
        let b = both_some (insert l) (type_of (scope names) w) (branches_of (scope names) ws) bs e in
        let p = type_plain names w b.0 h.0 b.2 in
        let q = branches_plain names ws b.1 h.1 b.3 in
        subst (ArePlain families (length names)) b.4 (record {
          scoped = placed_scoped (length names) l b.0 b.1 p.scoped q.scoped;
          below = placed_below l b.0 b.1 p.sorted q.below;
          order = ordered (insert l b.0 b.1) (placed_sorted l b.0 b.1 q.order);
          named = placed_named families l b.0 b.1 p.named q.named;
        })

-- a type with no `rec` around
pub closed_plain : (families : ℕ) (s : Scope) (w : WrittenTree) (t : Tree) → AllPlain families s → s.recs ≡ [] → HasBranches w →
    type_of s w ≡ Some t → IsPlain families 0 t
closed_plain families s w t all empty h e =
    type_plain families s all [] w t h (ap (λ names. type_of
    (record { recs = names; vars = s.vars; declared = s.declared; otherwise = s.otherwise }) w) (sym empty) ∙ e)
