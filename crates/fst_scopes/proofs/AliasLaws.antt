-- What aliases stand for, whatever the order in which they are looked at.
use Rattle.std.proofs.Common.{◌≡◌, ◌∙◌, inl, inr, ℕ, zero, suc, List, [], ◌∷◌, ◌++◌, Option, Some, None, refl, sym, ap, subst, arith}
use Rattle.std.specs.Prelude.{Contains, option_map, unwrap_or, if◌then◌else◌}
use Rattle.std.proofs.lemmas.List.Elements.{Contains-append_left, Contains-append_right, Contains-append_cases}
use Rattle.std.proofs.lemmas.Option.{same_Some}
use Rattle.fst_base.proofs.Lists.{contains_none}
use Rattle.fst_base.proofs.Options.{mapped_some}
use Rattle.fst_types.specs.Tree as tree
use Rattle.fst_types.specs.Tree.{Tree, Branches}
use Rattle.fst_types.specs.WrittenTree.{WrittenTree, WrittenBranches, skip, send, receive, close, wait, select, offer, seq, rec, named, plain, arrow, pair, none, branch}
use Rattle.fst_terms.specs.Arranged.{insert}
use Rattle.fst_terms.specs.Naming.{Scope, place_of, or_else, is_there, both, type_of, branches_of}
use Rattle.fst_scopes.specs.Aliases.{StandsFor, alias, names_in, names_in_all, Names, LeadsTo, one, further}
use Rattle.fst_scopes.specs.TypeNames.{TypeDecl, data_type, other_name, standing_for, scope_with}
use Rattle.fst_scopes.proofs.Plain.{both_some}
use Rattle.fst_scopes.proofs.ScopeLaws.{inside}

-- a list of one has that one
only_one : {A : Type 0} (x y : A) → Contains (x ∷ []) y → x ≡ y
only_one x y (k, lt, is) = elim (Contains-append_cases (x ∷ []) [] y (k, lt, is))
    [ inl c ↦ head c | inr c ↦ absurd (contains_none y c) ]
  where
    head : Contains (x ∷ []) y → x ≡ y
    head (zero, lt, is) = is
    head (suc k, lt, is) = absurd (omega arith)

here : {A : Type 0} (x : A) → Contains (x ∷ []) x
here x = (0, omega arith, refl)

module _ (declared : List ℕ → Option TypeDecl) where
  -- what is in scope where aliases stand for these types
  abbrev scope : List (List ℕ) → (List ℕ → Option Tree) → Scope
  scope recs aliases = inside recs (scope_with [] declared aliases)

  -- the two agree on the aliases among some names
  abbrev Agree : (List ℕ → Option Tree) → (List ℕ → Option Tree) → List (List ℕ) → Type 0
  Agree f g names = (y : List ℕ) (v : WrittenTree) → Contains names y → declared y ≡ Some (other_name v) → f y ≡ g y

  module _ (f g : List ℕ → Option Tree) where
    name_agrees : (at : ℕ) (x : List ℕ) (o : Option ℕ) → Agree f g (if is_there o then [] else x ∷ []) →
        unwrap_or (or_else (option_map (λ k. Some (tree.back k)) o) (standing_for f x (declared x))) (Some tree.skip) ≡
        unwrap_or (or_else (option_map (λ k. Some (tree.back k)) o) (standing_for g x (declared x))) (Some tree.skip)
    name_agrees at x (Some k) a = refl
    name_agrees at x None a = pick (declared x) refl
      where
        pick : (d : Option TypeDecl) → declared x ≡ d →
            unwrap_or (standing_for f x d) (Some tree.skip) ≡ unwrap_or (standing_for g x d) (Some tree.skip)
        pick None is = refl
        pick (Some (data_type k)) is = refl
        pick (Some (other_name w)) is = a x w (here x) is

    left : (xs ys : List (List ℕ)) → Agree f g (xs ++ ys) → Agree f g xs
    left xs ys a y v c = a y v (Contains-append_left xs ys y c)

    right : (xs ys : List (List ℕ)) → Agree f g (xs ++ ys) → Agree f g ys
    right xs ys a y v c = a y v (Contains-append_right xs ys y c)

    mutual
      -- a type stands for the same where its aliases do
      pub type_agrees : (recs : List (List ℕ)) (w : WrittenTree) → Agree f g (names_in recs w) →
          type_of (scope recs f) w ≡ type_of (scope recs g) w
      type_agrees recs (skip at) a = refl
      type_agrees recs (send at b) a = refl
      type_agrees recs (receive at b) a = refl
      type_agrees recs (close at) a = refl
      type_agrees recs (wait at) a = refl
      type_agrees recs (select at bs) a = ap (option_map tree.select) (branches_agree recs bs a)
      type_agrees recs (offer at bs) a = ap (option_map tree.offer) (branches_agree recs bs a)
      type_agrees recs (seq at t u) a = λ i. both tree.seq (type_agrees recs t (left (names_in recs t) (names_in recs u) a) i)
          (type_agrees recs u (right (names_in recs t) (names_in recs u) a) i)
      type_agrees recs (rec at x t) a = ap (option_map tree.rec) (type_agrees (x ∷ recs) t a)
      type_agrees recs (named at x) a = name_agrees at x (place_of recs x) a
      type_agrees recs (plain at b) a = refl
      type_agrees recs (arrow at uses t u) a = λ i. both (tree.arrow uses)
          (type_agrees recs t (left (names_in recs t) (names_in recs u) a) i)
          (type_agrees recs u (right (names_in recs t) (names_in recs u) a) i)
      type_agrees recs (pair at t u) a = λ i. both tree.pair (type_agrees recs t (left (names_in recs t) (names_in recs u) a) i)
          (type_agrees recs u (right (names_in recs t) (names_in recs u) a) i)

      branches_agree : (recs : List (List ℕ)) (bs : WrittenBranches) → Agree f g (names_in_all recs bs) →
          branches_of (scope recs f) bs ≡ branches_of (scope recs g) bs
      branches_agree recs none a = refl
      branches_agree recs (branch l t bs) a =
          λ i. both (insert l) (type_agrees recs t (left (names_in recs t) (names_in_all recs bs) a) i)
          (branches_agree recs bs (right (names_in recs t) (names_in_all recs bs) a) i)

  -- each alias among some names stands for something
  abbrev AllStand : (List ℕ → Option Tree) → List (List ℕ) → Type 0
  AllStand f names = (y : List ℕ) (v : WrittenTree) → Contains names y → declared y ≡ Some (other_name v) → (u : Tree) ×
      (f y ≡ Some u)

  module _ (f : List ℕ → Option Tree) where
    name_stands : (x : List ℕ) (o : Option ℕ) (t : Tree) →
        unwrap_or (or_else (option_map (λ k. Some (tree.back k)) o) (standing_for f x (declared x))) (Some tree.skip) ≡ Some t →
        AllStand f (if is_there o then [] else x ∷ [])
    name_stands x (Some k) t e y v c d = absurd (contains_none y c)
    name_stands x None t e y v c d =
        let same = only_one x y c in
        (t, subst (λ z. f z ≡ Some t) same (pick (declared x) (ap declared same ∙ d) e))
      where
        pick : (d : Option TypeDecl) → d ≡ Some (other_name v) → unwrap_or (standing_for f x d) (Some tree.skip) ≡ Some t →
            f x ≡ Some t
        pick None is h = absurd (cc is)
        pick (Some (data_type k)) is h = absurd (cc is)
        pick (Some (other_name w)) is h = h

    two : (xs ys : List (List ℕ)) → AllStand f xs → AllStand f ys → AllStand f (xs ++ ys)
    two xs ys a b y v c d = elim (Contains-append_cases xs ys y c) [ inl c ↦ a y v c d | inr c ↦ b y v c d ]

    mutual
      -- the aliases in a type that stands for something stand for something
      pub aliases_stand : (recs : List (List ℕ)) (w : WrittenTree) (t : Tree) → type_of (scope recs f) w ≡ Some t →
          AllStand f (names_in recs w)
      aliases_stand recs (skip at) t e = λ y v c d. absurd (contains_none y c)
      aliases_stand recs (send at b) t e = λ y v c d. absurd (contains_none y c)
      aliases_stand recs (receive at b) t e = λ y v c d. absurd (contains_none y c)
      aliases_stand recs (close at) t e = λ y v c d. absurd (contains_none y c)
      aliases_stand recs (wait at) t e = λ y v c d. absurd (contains_none y c)
      aliases_stand recs (select at bs) t e = let m = mapped_some tree.select (branches_of (scope recs f) bs) t e in
          branches_stand recs bs m.0 m.1
      aliases_stand recs (offer at bs) t e = let m = mapped_some tree.offer (branches_of (scope recs f) bs) t e in
          branches_stand recs bs m.0 m.1
      aliases_stand recs (seq at v w) t e =
          let b = both_some tree.seq (type_of (scope recs f) v) (type_of (scope recs f) w) t e in
          two (names_in recs v) (names_in recs w) (aliases_stand recs v b.0 b.2) (aliases_stand recs w b.1 b.3)
      aliases_stand recs (rec at x w) t e = let m = mapped_some tree.rec (type_of (scope (x ∷ recs) f) w) t e in
          aliases_stand (x ∷ recs) w m.0 m.1
      aliases_stand recs (named at x) t e = name_stands x (place_of recs x) t e
      aliases_stand recs (plain at b) t e = λ y v c d. absurd (contains_none y c)
      aliases_stand recs (arrow at uses v w) t e =
          let b = both_some (tree.arrow uses) (type_of (scope recs f) v) (type_of (scope recs f) w) t e in
          two (names_in recs v) (names_in recs w) (aliases_stand recs v b.0 b.2) (aliases_stand recs w b.1 b.3)
      aliases_stand recs (pair at v w) t e =
          let b = both_some tree.pair (type_of (scope recs f) v) (type_of (scope recs f) w) t e in
          two (names_in recs v) (names_in recs w) (aliases_stand recs v b.0 b.2) (aliases_stand recs w b.1 b.3)

      branches_stand : (recs : List (List ℕ)) (ws : WrittenBranches) (bs : Branches) → branches_of (scope recs f) ws ≡ Some bs →
          AllStand f (names_in_all recs ws)
      branches_stand recs none bs e = λ y v c d. absurd (contains_none y c)
      branches_stand recs (branch l w ws) bs e =
          let b = both_some (insert l) (type_of (scope recs f) w) (branches_of (scope recs f) ws) bs e in
          two (names_in recs w) (names_in_all recs ws) (aliases_stand recs w b.0 b.2) (branches_stand recs ws b.1 b.3)

  -- what stands for more stands for the same
  pub more_stands : (f g : List ℕ → Option Tree) → ((y : List ℕ) (u : Tree) → f y ≡ Some u → g y ≡ Some u) →
      (w : WrittenTree) (t : Tree) →
      type_of (scope [] f) w ≡ Some t → type_of (scope [] g) w ≡ Some t
  more_stands f g more w t e = sym (type_agrees f g [] w
      (λ y v c d. let s = aliases_stand f [] w t e y v c d in s.1 ∙ sym (more y s.0 s.1))) ∙ e

  -- ---- loops

  -- what leads somewhere is an alias
  pub leads_from : (x y : List ℕ) → LeadsTo declared x y → (w : WrittenTree) × (declared x ≡ Some (other_name w))
  leads_from x y (one _ _ n) = (n.its_type, n.is_alias)
  leads_from x y (further _ z _ n l) = (n.its_type, n.is_alias)

  -- one name more behind
  leads_on : (x y z : List ℕ) → LeadsTo declared x y → Names declared y z → LeadsTo declared x z
  leads_on x y z (one _ _ n) m = further x y z n (one y z m)
  leads_on x y z (further _ v _ n l) m = further x v z n (leads_on v y z l m)

  same_type : (w v : WrittenTree) (d : Option TypeDecl) → d ≡ Some (other_name w) → d ≡ Some (other_name v) → w ≡ v
  same_type w v d e h = other (same_Some (other_name w) (other_name v) (sym e ∙ h))
    where
      type_in : TypeDecl → WrittenTree
      type_in (data_type k) = w
      type_in (other_name z) = z

      other : other_name w ≡ other_name v → w ≡ v
      other p = ap type_in p

  -- an alias that stands for something doesn't lead back to itself
  pub no_loop : (x : List ℕ) (t : Tree) → StandsFor declared x t → LeadsTo declared x x → ⊥
  no_loop x t (alias others _ w _ is stand e) l = first (λ y u p. no_loop y u (stand y u p)) l
    where
      stands : ((y : List ℕ) (u : Tree) → others y ≡ Some u → LeadsTo declared y y → ⊥) →
          (y : List ℕ) → Names declared x y → LeadsTo declared y y → ⊥
      stands below y n l =
          let from = leads_from y y l in
          let inside = subst (λ z. Contains (names_in [] z) y) (same_type n.its_type w (declared x) n.is_alias is) n.is_in in
          let s = aliases_stand others [] w t e y from.0 inside from.1 in
          below y s.0 s.1 l

      first : ((y : List ℕ) (u : Tree) → others y ≡ Some u → LeadsTo declared y y → ⊥) → LeadsTo declared x x → ⊥
      first below (one _ _ n) = stands below x n (one x x n)
      first below (further _ y _ n l) = stands below y n (leads_on y x y l n)
