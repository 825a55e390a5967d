-- The labels of a type that was read are upper names, and a session type with such labels can be written.
use Rattle.std.proofs.Common.{◌≡◌, ℕ, List, ◌∷◌, length, Option, Some, None, refl, subst}
use Rattle.std.specs.Prelude.{option_map, unwrap_or, ⊤}
use Rattle.std.specs.declared.cmp.Ordering.{Ordering}
use Rattle.std.specs.declared.cmp.Ordering.TheVariants.{Less, Equal, Greater}
use Rattle.std.specs.Ordering.{nat_cmp}
use Rattle.std.specs.Cmp.Lexicographic.{slice_cmp}
use Rattle.std.proofs.lemmas.Option.{same_Some, slice_get_within}
use Rattle.fst_base.proofs.Options.{mapped_some}
use Rattle.fst_types.specs.Tree as tree
use Rattle.fst_types.specs.Tree.{Tree, Branches, none, branch}
use Rattle.fst_types.specs.WrittenTree as written
use Rattle.fst_types.specs.WrittenTree.{WrittenTree, WrittenBranches, skip, send, receive, close, wait, select, offer, seq, rec, named, plain, arrow, pair}
use Rattle.fst_types.specs.Order.{EachChoice, EachChoiceBelow}
use Rattle.fst_types.specs.declared.kind.Kind.{Kind}
use Rattle.fst_types.specs.declared.kind.Use.{Use}
use Rattle.fst_types.specs.declared.kind.Use.TheVariants.{Many}
use Rattle.fst_kinds.specs.Kinds.{HasKind, AllSessions, session, join}
use Rattle.fst_kinds.proofs.Laws.{not_top}
use Rattle.fst_terms.specs.Arranged.{insert_by, insert}
use Rattle.fst_terms.specs.Naming.{Scope, place_of, or_else, both, type_of, branches_of}
use Rattle.fst_roundtrip.specs.ReadBack.{IsNoArrow, IsWritable, AreWritable}
use Rattle.fst_roundtrip.proofs.Showable.{IsUpperName, IsShowableType, AreShowableBranches}

-- the labels of these branches are upper names
abbrev pub AreUpper : Branches → Type 0
AreUpper none = ⊤
AreUpper (branch l t bs) = IsUpperName l × AreUpper bs

-- what makes a value together is there
pub both_some : {A B C : Type 0} (f : A → B → C) (o : Option A) (p : Option B) (z : C) → both f o p ≡ Some z → (x : A) × (y : B) ×
    (o ≡ Some x) × (p ≡ Some y) × (f x y ≡ z)
unfolding both
both_some f (Some x) (Some y) z e = (x, y, refl, refl, same_Some (f x y) z e)
both_some f (Some x) None z e = absurd (cc e)
both_some f None p z e = absurd (cc e)

placed_upper : (l : List ℕ) (t : Tree) (bs : Branches) → IsUpperName l → AreUpper bs → AreUpper (insert l t bs)
placed_upper l t none upper others = (upper, tt)
placed_upper l t (branch m u bs) upper others = by (slice_cmp nat_cmp l m) (placed_upper l t bs upper others.1)
  where
    by : (o : Ordering) → AreUpper (insert l t bs) → AreUpper (insert_by o l t m u bs (insert l t bs))
    by Less r = (upper, others)
    by Equal r = (upper, others)
    by Greater r = (others.0, r)

placed_below : (l : List ℕ) (t : Tree) (bs : Branches) → EachChoice AreUpper t → EachChoiceBelow AreUpper bs →
    EachChoiceBelow AreUpper (insert l t bs)
placed_below l t none p q = (p, tt)
placed_below l t (branch m u bs) p q = by (slice_cmp nat_cmp l m) (placed_below l t bs p q.1)
  where
    by : (o : Ordering) → EachChoiceBelow AreUpper (insert l t bs) →
        EachChoiceBelow AreUpper (insert_by o l t m u bs (insert l t bs))
    by Less r = (p, q)
    by Equal r = (p, q)
    by Greater r = (q.0, r)

module _ (vars : List (List ℕ)) where
  -- these names of `rec`s are in scope, and variables
  abbrev scope : List (List ℕ) → Scope
  scope recs = record { recs = recs; vars = vars; declared = λ x. None; otherwise = Some tree.skip }

  name_upper : (r v : Option ℕ) (t : Tree) → unwrap_or (or_else (option_map (λ k. Some (tree.back k)) r)
      (or_else (option_map (λ k. Some (tree.var k)) v) None)) (Some tree.skip) ≡ Some t → EachChoice AreUpper t
  name_upper (Some k) v t e = subst (EachChoice AreUpper) (same_Some (tree.back k) t e) tt
  name_upper None (Some k) t e = subst (EachChoice AreUpper) (same_Some (tree.var k) t e) tt
  name_upper None None t e = subst (EachChoice AreUpper) (same_Some tree.skip t e) tt

  mutual
    -- each label of a type is an upper name
    pub type_upper : (recs : List (List ℕ)) (w : WrittenTree) (t : Tree) → IsShowableType w → type_of (scope recs) w ≡ Some t →
        EachChoice AreUpper t
    type_upper recs (skip at) t h e = subst (EachChoice AreUpper) (same_Some tree.skip t e) tt
    type_upper recs (send at b) t h e = subst (EachChoice AreUpper) (same_Some (tree.send b) t e) tt
    type_upper recs (receive at b) t h e = subst (EachChoice AreUpper) (same_Some (tree.receive b) t e) tt
    type_upper recs (close at) t h e = subst (EachChoice AreUpper) (same_Some tree.close t e) tt
    type_upper recs (wait at) t h e = subst (EachChoice AreUpper) (same_Some tree.wait t e) tt
    type_upper recs (select at written.none) t h e = absurd h
    type_upper recs (select at (written.branch l w ws)) t h e =
        let m = mapped_some tree.select (branches_of (scope recs) (written.branch l w ws)) t e in
        subst (EachChoice AreUpper) m.2 (branches_upper recs (written.branch l w ws) m.0 h m.1)
    type_upper recs (offer at written.none) t h e = absurd h
    type_upper recs (offer at (written.branch l w ws)) t h e =
        let m = mapped_some tree.offer (branches_of (scope recs) (written.branch l w ws)) t e in
        subst (EachChoice AreUpper) m.2 (branches_upper recs (written.branch l w ws) m.0 h m.1)
    type_upper recs (seq at v w) t h e =
        let b = both_some tree.seq (type_of (scope recs) v) (type_of (scope recs) w) t e in
        subst (EachChoice AreUpper) b.4 (type_upper recs v b.0 h.0 b.2, type_upper recs w b.1 h.1 b.3)
    type_upper recs (rec at x w) t h e =
        let m = mapped_some tree.rec (type_of (scope (x ∷ recs)) w) t e in
        subst (EachChoice AreUpper) m.2 (type_upper (x ∷ recs) w m.0 h.1 m.1)
    type_upper recs (named at x) t h e = name_upper (place_of recs x) (place_of vars x) t e
    type_upper recs (plain at b) t h e = subst (EachChoice AreUpper) (same_Some (tree.plain b) t e) tt
    type_upper recs (arrow at uses v w) t h e =
        let b = both_some (tree.arrow uses) (type_of (scope recs) v) (type_of (scope recs) w) t e in
        subst (EachChoice AreUpper) b.4 (type_upper recs v b.0 h.0 b.2, type_upper recs w b.1 h.1 b.3)
    type_upper recs (pair at v w) t h e =
        let b = both_some tree.pair (type_of (scope recs) v) (type_of (scope recs) w) t e in
        subst (EachChoice AreUpper) b.4 (type_upper recs v b.0 h.0 b.2, type_upper recs w b.1 h.1 b.3)

    branches_upper : (recs : List (List ℕ)) (ws : WrittenBranches) (bs : Branches) → AreShowableBranches ws →
        branches_of (scope recs) ws ≡ Some bs → AreUpper bs × EachChoiceBelow AreUpper bs
    branches_upper recs written.none bs h e =
        subst (λ cs. AreUpper cs × EachChoiceBelow AreUpper cs) (same_Some none bs e) (tt, tt)
    branches_upper recs (written.branch l w ws) bs h e =
        let b = both_some (insert l) (type_of (scope recs) w) (branches_of (scope recs) ws) bs e in
        let one = type_upper recs w b.0 h.1 b.2 in
        let others = branches_upper recs ws b.1 h.2 b.3 in
        subst (λ cs. AreUpper cs × EachChoiceBelow AreUpper cs) b.4
        (placed_upper l b.0 b.1 h.0 others.0, placed_below l b.0 b.1 one others.1)

mutual
  -- a session type is no function, and can be written
  pub session_writable : (kinds : List Kind) (t : Tree) (u : Use) → HasKind kinds t (session u) → EachChoice AreUpper t →
      IsNoArrow t × IsWritable (length kinds) t
  session_writable kinds tree.skip u k upper = (refl, tt)
  session_writable kinds (tree.send b) u k upper = (refl, tt)
  session_writable kinds (tree.receive b) u k upper = (refl, tt)
  session_writable kinds tree.close u k upper = (refl, tt)
  session_writable kinds tree.wait u k upper = (refl, tt)
  session_writable kinds (tree.select bs) u k upper = (refl, sessions_writable kinds bs k.0 upper.0 upper.1)
  session_writable kinds (tree.offer bs) u k upper = (refl, sessions_writable kinds bs k.0 upper.0 upper.1)
  session_writable kinds (tree.seq s r) u k upper =
      let first = session_writable kinds s k.0 k.2 upper.0 in
      let second = session_writable kinds r k.1 k.3 upper.1 in
      (refl, (first.0, second.0, first.1, second.1))
  session_writable kinds (tree.rec s) u k upper = (refl, session_writable kinds s u k.0 upper)
  session_writable kinds (tree.back n) u k upper = (refl, tt)
  session_writable kinds (tree.var n) u k upper = (refl, slice_get_within kinds n (session u) k)
  session_writable kinds (tree.plain b) u k upper = absurd (not_top u Many k)
  session_writable kinds (tree.arrow v s r) u k upper = absurd (not_top u v k.2)
  session_writable kinds (tree.pair s r) u k upper = absurd (not_top u (join (k.0).uses (k.1).uses) k.4)
  session_writable kinds (tree.named n) u k upper = absurd (not_top u Many k)

  sessions_writable : (kinds : List Kind) (bs : Branches) → AllSessions kinds bs → AreUpper bs → EachChoiceBelow AreUpper bs →
      AreWritable (length kinds) bs
  sessions_writable kinds none k labels upper = tt
  sessions_writable kinds (branch l s bs) k labels upper =
      let one = session_writable kinds s k.0.0 k.0.1 upper.0 in
      (labels.0, one.0, one.1, sessions_writable kinds bs k.1 labels.1 upper.1)
