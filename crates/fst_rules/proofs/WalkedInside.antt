-- The same of the forms that bind variables, and of two branches.
use Rattle.std.proofs.Common.{◌≡◌, ◌∙◌, ℕ, ◌&&◌, List, ◌∷◌, Some, None, slice_get, sym, ap, subst}
use Rattle.std.proofs.lemmas.Option.{same_Some}
use Rattle.fst_types.specs.Tree as type
use Rattle.fst_types.specs.Tree.{Tree, plain, arrow}
use Rattle.fst_types.specs.declared.base.Base.TheVariants.{Bool as Truth}
use Rattle.fst_types.specs.declared.kind.Kind.{Kind}
use Rattle.fst_types.specs.declared.kind.Use.{Use}
use Rattle.fst_types.specs.declared.kind.Use.TheVariants.{Many}
use Rattle.fst_terms.specs.CoreTree.{CoreTree, lambda, let_in, split, if_else}
use Rattle.fst_terms.specs.declared.binder.Binder.{Binder}
use Rattle.fst_context.specs.Vars.{Vars, no_vars, under, Both}
use Rattle.fst_context.specs.Scope.{Variable, is_once}
use Rattle.fst_derivations.specs.Deriv.{Deriv, row, type_of, one, two, three}
use Rattle.fst_derivations.specs.Parts.{HasUse}
use Rattle.fst_derivations.specs.Rules.{Surroundings}
use Rattle.fst_fits.specs.Tests.{same_tree, use_in, pair_parts, is_arrow, arrow_of}
use Rattle.fst_rules.specs.Walks.{Walk, only, given, after, inside, in_body, branches, parts_1, parts_2, parts_3, whole, row_walk}
use Rattle.fst_fits.specs.Fits.{if_fits}
use Rattle.fst_rules.proofs.Deciding.{Decides, decides_as, decides_only, decides_given, decides_both}
use Rattle.fst_rules.proofs.DecidingInside.{decides_inside, decides_body, decides_branches}
use Rattle.fst_rules.proofs.DecidingRows.{one_of, two_of, three_of, same_first, same_second}
use Rattle.fst_fits.proofs.Laws.{and_left, and_right, and_both, tree_same, tree_itself, has_use, of_use}
use Rattle.fst_fits.proofs.Laws.{pair_is, function, of_function}
use Rattle.fst_rules.proofs.Walked.{Conversions, Rule, Part, PartAt, Parts, Rows, rows, as_row, at_over, over_at, both}

same_one : (d h : Deriv) → one d ≡ one h → d ≡ h
same_one d h e = cc

same_pair : (s r x y : Tree) → type.pair s r ≡ type.pair x y → (s ≡ x) × (r ≡ y)
same_pair s r x y e = (cc, cc)

same_three : (d h k x y z : Deriv) → three d h k ≡ three x y z → (d ≡ x) × (h ≡ y) × (k ≡ z)
same_three d h k x y z e = (cc, cc, cc)

-- what a type's use is found to be
use_same : (vars : List Kind) (s t : Tree) (n o : Use) → s ≡ t → HasUse vars s n → use_in vars t ≡ Some o → n ≡ o
use_same vars s t n o e w h = same_Some n o (sym (of_use vars s n w) ∙ ap (use_in vars) e ∙ h)

no_use : (vars : List Kind) (s t : Tree) (n : Use) → s ≡ t → HasUse vars s n → use_in vars t ≡ None → ⊥
no_use vars s t n e w h = let x = sym h ∙ ap (use_in vars) (sym e) ∙ of_use vars s n w in absurd (cc x)

module _ (m : Surroundings) where
  pub lambda_rows : (at : ℕ) (uses : Use) (k : ℕ) (x : Binder) (a : CoreTree) → Parts m a → Rows m (lambda at uses k x a)
  lambda_rows at uses k x a A g t ds =
      decides_given g P (slice_get m.types k) F (λ u (s, n, d, p, w, b, o, y, e) h. let z = sym h ∙ p in absurd (cc z))
      (λ s is. decides_given g P (use_in m.vars s) (F' s)
      (λ u (s', n, d, p, w, b, o, y, e) h. no_use m.vars s' s n (type_is s is s' p) w h)
      (λ n w. decides_given g P (parts_1 ds) (F'' s n)
      (λ u (s', n', d, p, w', b, o, y, e) h. let z = sym h ∙ ap parts_1 (rows t (arrow uses s' (type_of d)) ds (one d) e).1 in
      absurd (cc z))
      (λ d part. inner s n d is w (one_of ds d part))))
    where
      P : Vars → Type 0
      P u = Rule m (lambda at uses k x a) g u (row t ds)

      last : Tree → Use → Deriv → Walk
      last s n d = only (is_arrow (arrow_of t) uses s (type_of d))
          (in_body uses (inside x.name (record { type = s; uses = n }) (whole m.vars (row_walk m a) d)))

      F'' : Tree → Use → Deriv → Walk
      F'' s n d = last s n d

      F' : Tree → Use → Walk
      F' s n = given (parts_1 ds) (F'' s n)

      F : Tree → Walk
      F s = given (use_in m.vars s) (F' s)

      type_is : (s : Tree) → slice_get m.types k ≡ Some s → (s' : Tree) → slice_get m.types k ≡ Some s' → s' ≡ s
      type_is s is s' p = same_Some s' s (sym p ∙ is)

      inner : (s : Tree) (n : Use) (d : Deriv) → slice_get m.types k ≡ Some s → use_in m.vars s ≡ Some n → ds ≡ one d →
          Decides g P (last s n d)
      inner s n d is w same =
          let Z = λ (s' : Tree) (n' : Use) (d' : Deriv) (u : Vars). Part m a (record { type = s'; uses = n' } ∷ g) d'
          (under (is_once n') u) in
          decides_only g P (is_arrow (arrow_of t) uses s (type_of d))
          (in_body uses (inside x.name (record { type = s; uses = n }) (whole m.vars (row_walk m a) d)))
          (λ u (s', n', d', p, w', z, o, y, e).
          let r = rows t (arrow uses s' (type_of d')) ds (one d') e in
          let ps = type_is s is s' p in
          let pd = same_one d' d (sym r.1 ∙ same) in
          of_function t s (type_of d) uses (r.0 ∙ (λ i. arrow uses (ps i) (type_of (pd i)))))
          (λ b. decides_as g (λ u. (uses ≡ Many → u ≡ no_vars) × Z s n d u) P
          (in_body uses (inside x.name (record { type = s; uses = n }) (whole m.vars (row_walk m a) d)))
          (λ u (o, y). (
            s,
            n,
            d,
            is,
            has_use m.vars s n w,
            tt,
            o,
            y,
            as_row t (arrow uses s (type_of d)) ds (one d) (function t s (type_of d) uses b) same,
          ))
          (λ u (s', n', d', p, w', z, o, y, e).
          let r = rows t (arrow uses s' (type_of d')) ds (one d') e in
          let ps = type_is s is s' p in
          let pn = use_same m.vars s' s n' n ps w' w in
          let pd = same_one d' d (sym r.1 ∙ same) in
          (o, subst (λ z. Z s n z u) pd (subst (λ z. Z s z d' u) pn (subst (λ z. Z z n' d' u) ps y))))
          (decides_body g uses (Z s n d) (inside x.name (record { type = s; uses = n }) (whole m.vars (row_walk m a) d))
          (decides_inside g x.name (record { type = s; uses = n }) (Part m a (record { type = s; uses = n } ∷ g) d)
          (whole m.vars (row_walk m a) d) (A (record { type = s; uses = n } ∷ g) d))))

  pub let_rows : (at : ℕ) (x : Binder) (a b : CoreTree) → Parts m a → Parts m b → Rows m (let_in at x a b)
  let_rows at x a b A B g t ds =
      decides_given g P (parts_2 ds) F (λ u (d, h, n, z, w, e) o. let y = sym o
      ∙ ap parts_2 (rows t (type_of h) ds (two d h) e).1 in absurd (cc y))
      (λ p part. outer p (two_of ds p part))
    where
      P : Vars → Type 0
      P u = Rule m (let_in at x a b) g u (row t ds)

      variable : Deriv → Use → Variable
      variable d n = record { type = type_of d; uses = n }

      last : Deriv × Deriv → Use → Walk
      last p n = after (whole m.vars (row_walk m a) p.0)
          (inside x.name (record { type = type_of p.0; uses = n }) (whole m.vars (row_walk m b) p.1))

      F : Deriv × Deriv → Walk
      F p = only (same_tree t (type_of p.1)) (given (use_in m.vars (type_of p.0)) (last p))

      outer : (p : Deriv × Deriv) → ds ≡ two p.0 p.1 → Decides g P (F p)
      outer p same =
          let Z = λ (d' h' : Deriv) (n' : Use) (u : Vars). Both (Part m a g d')
          (λ v. Part m b (record { type = type_of d'; uses = n' } ∷ g) h' (under (is_once n') v)) u in
          decides_only g P (same_tree t (type_of p.1)) (given (use_in m.vars (type_of p.0)) (last p))
          (λ u (d, h, n, z, w, e).
          let r = rows t (type_of h) ds (two d h) e in
          tree_itself t (type_of p.1) (r.0 ∙ ap type_of (same_second d h p.0 p.1 (sym r.1 ∙ same))))
          (λ f. decides_given g P (use_in m.vars (type_of p.0)) (last p)
          (λ u (d, h, n, z, w, e) o. no_use m.vars (type_of d) (type_of p.0) n
          (ap type_of (same_first d h p.0 p.1 (sym (rows t (type_of h) ds (two d h) e).1 ∙ same))) w o)
          (λ n o. decides_as g (Z p.0 p.1 n) P (last p n)
          (λ u z. (
            p.0,
            p.1,
            n,
            z,
            has_use m.vars (type_of p.0) n o,
            as_row t (type_of p.1) ds (two p.0 p.1) (tree_same t (type_of p.1) f) same,
          ))
          (λ u (d, h, n', z, w, e).
          let r = rows t (type_of h) ds (two d h) e in
          let pd = same_first d h p.0 p.1 (sym r.1 ∙ same) in
          let ph = same_second d h p.0 p.1 (sym r.1 ∙ same) in
          let pn = use_same m.vars (type_of d) (type_of p.0) n' n (ap type_of pd) w o in
          subst (λ y. Z p.0 p.1 y u) pn (subst (λ y. Z p.0 y n' u) ph (subst (λ y. Z y h n' u) pd z)))
          (decides_both g (Part m a g p.0) (λ v. Part m b (record { type = type_of p.0; uses = n } ∷ g) p.1 (under (is_once n) v))
          (whole m.vars (row_walk m a) p.0)
          (inside x.name (record { type = type_of p.0; uses = n }) (whole m.vars (row_walk m b) p.1)) (A g p.0)
          (decides_inside g x.name (record { type = type_of p.0; uses = n })
          (Part m b (record { type = type_of p.0; uses = n } ∷ g) p.1) (whole m.vars (row_walk m b) p.1)
          (B (record { type = type_of p.0; uses = n } ∷ g) p.1)))))

  pub split_rows : (at : ℕ) (x y : Binder) (a b : CoreTree) → Parts m a → Parts m b → Rows m (split at x y a b)
  split_rows at x y a b A B g t ds =
      decides_given g P (parts_2 ds) F (λ u (d, h, s, r, n, o, z, p, i, j, e) w. let y = sym w
      ∙ ap parts_2 (rows t (type_of h) ds (two d h) e).1 in absurd (cc y))
      (λ p part. outer p (two_of ds p part))
    where
      P : Vars → Type 0
      P u = Rule m (split at x y a b) g u (row t ds)

      last : Deriv × Deriv → Tree × Tree → Use → Use → Walk
      last p q n o =
          after (whole m.vars (row_walk m a) p.0)
          (inside x.name (record { type = q.0; uses = n })
          (inside y.name (record { type = q.1; uses = o }) (whole m.vars (row_walk m b) p.1)))

      F'' : Deriv × Deriv → Tree × Tree → Use → Walk
      F'' p q n = given (use_in m.vars q.1) (last p q n)

      F' : Deriv × Deriv → Tree × Tree → Walk
      F' p q = given (use_in m.vars q.0) (F'' p q)

      F : Deriv × Deriv → Walk
      F p = only (same_tree t (type_of p.1)) (given (pair_parts (type_of p.0)) (F' p))

      outer : (p : Deriv × Deriv) → ds ≡ two p.0 p.1 → Decides g P (F p)
      outer p same =
          let Z = λ (d' h' : Deriv) (s' r' : Tree) (n' o' : Use) (u : Vars). Both (Part m a g d')
          (λ v. Part m b (record { type = r'; uses = o' } ∷ record { type = s'; uses = n' } ∷ g) h'
          (under (is_once o') (under (is_once n') v))) u in
          let pd = λ (d h : Deriv) (e : row t ds ≡ row (type_of h) (two d h)). same_first d h p.0 p.1
          (sym (rows t (type_of h) ds (two d h) e).1 ∙ same) in
          let ph = λ (d h : Deriv) (e : row t ds ≡ row (type_of h) (two d h)). same_second d h p.0 p.1
          (sym (rows t (type_of h) ds (two d h) e).1 ∙ same) in
          let types = λ (q : Tree × Tree) (is : pair_parts (type_of p.0) ≡ Some q) (d h : Deriv) (s r : Tree)
          (e : row t ds ≡ row (type_of h) (two d h)) (z : type_of d ≡ type.pair s r).
          same_pair s r q.0 q.1 (sym z ∙ ap type_of (pd d h e) ∙ pair_is (type_of p.0) q is) in
          decides_only g P (same_tree t (type_of p.1)) (given (pair_parts (type_of p.0)) (F' p))
          (λ u (d, h, s, r, n, o, z, f, i, j, e). tree_itself t (type_of p.1)
          ((rows t (type_of h) ds (two d h) e).0 ∙ ap type_of (ph d h e)))
          (λ f. decides_given g P (pair_parts (type_of p.0)) (F' p)
          (λ u (d, h, s, r, n, o, z, w, i, j, e) v. let y = sym v ∙ ap pair_parts (sym (ap type_of (pd d h e)) ∙ w) in
          absurd (cc y))
          (λ q is. decides_given g P (use_in m.vars q.0) (F'' p q)
          (λ u (d, h, s, r, n, o, z, w, i, j, e) v. no_use m.vars s q.0 n (types q is d h s r e w).0 i v)
          (λ n v. decides_given g P (use_in m.vars q.1) (last p q n)
          (λ u (d, h, s, r, n, o, z, w, i, j, e) v. no_use m.vars r q.1 o (types q is d h s r e w).1 j v)
          (λ o k. decides_as g (Z p.0 p.1 q.0 q.1 n o) P (last p q n o)
          (λ u z. (
            p.0,
            p.1,
            q.0,
            q.1,
            n,
            o,
            z,
            pair_is (type_of p.0) q is,
            has_use m.vars q.0 n v,
            has_use m.vars q.1 o k,
            as_row t (type_of p.1) ds (two p.0 p.1) (tree_same t (type_of p.1) f) same,
          ))
          (λ u (d, h, s, r, n', o', z, w, i, j, e).
          let ts = types q is d h s r e w in
          let pn = use_same m.vars s q.0 n' n ts.0 i v in
          let po = use_same m.vars r q.1 o' o ts.1 j k in
          subst (λ y. Z p.0 p.1 q.0 q.1 n y u) po (subst
          (λ y. Z p.0 p.1 q.0 q.1 y o' u) pn (subst (λ y. Z p.0 p.1 q.0 y n' o' u) ts.1
          (subst (λ y. Z p.0 p.1 y r n' o' u) ts.0 (subst
          (λ y. Z p.0 y s r n' o' u) (ph d h e) (subst (λ y. Z y h s r n' o' u) (pd d h e) z))))))
          (decides_both g (Part m a g p.0) (λ v. Part m b
          (record { type = q.1; uses = o } ∷ record { type = q.0; uses = n } ∷ g) p.1
          (under (is_once o) (under (is_once n) v)))
          (whole m.vars (row_walk m a) p.0) (inside x.name (record { type = q.0; uses = n })
          (inside y.name (record { type = q.1; uses = o }) (whole m.vars (row_walk m b) p.1))) (A g p.0)
          (decides_inside g x.name (record { type = q.0; uses = n })
          (λ v. Part m b (record { type = q.1; uses = o } ∷ record { type = q.0; uses = n } ∷ g) p.1 (under (is_once o) v))
          (inside y.name (record { type = q.1; uses = o }) (whole m.vars (row_walk m b) p.1))
          (decides_inside (record { type = q.0; uses = n } ∷ g) y.name (record { type = q.1; uses = o })
          (Part m b (record { type = q.1; uses = o } ∷ record { type = q.0; uses = n } ∷ g) p.1)
          (whole m.vars (row_walk m b) p.1)
          (B (record { type = q.1; uses = o } ∷ record { type = q.0; uses = n } ∷ g) p.1))))))))

  pub if_rows : (at : ℕ) (a b c : CoreTree) → Parts m a → Parts m b → Parts m c → Rows m (if_else at a b c)
  if_rows at a b c A B C g t ds =
      decides_given g P (parts_3 ds) F (λ u (d, h, l, z, e) w. let y = sym w
      ∙ ap parts_3 (rows t (type_of h) ds (three d h l) e).1 in absurd (cc y))
      (λ p part. outer p (three_of ds p part))
    where
      P : Vars → Type 0
      P u = Rule m (if_else at a b c) g u (row t ds)

      last : Deriv × Deriv × Deriv → Walk
      last p = after (whole m.vars (row_walk m a) p.0)
          (branches (whole m.vars (row_walk m b) p.1) (whole m.vars (row_walk m c) p.2))

      F : Deriv × Deriv × Deriv → Walk
      F p = only (if_fits t (type_of p.0) (type_of p.1) (type_of p.2)) (last p)

      outer : (p : Deriv × Deriv × Deriv) → ds ≡ three p.0 p.1 p.2 → Decides g P (F p)
      outer p same =
          let Z = λ (d h l : Deriv) (u : Vars). Both (Part m a g d) (λ v. Part m b g h v × Part m c g l v) u in
          let x = same_tree (type_of p.0) (plain Truth) in
          let y = same_tree t (type_of p.1) in
          let z = same_tree (type_of p.2) (type_of p.1) in
          let ps = λ (d h l : Deriv) (e : row t ds ≡ row (type_of h) (three d h l)). same_three d h l p.0 p.1 p.2
          (sym (rows t (type_of h) ds (three d h l) e).1 ∙ same) in
          decides_only g P (x && (y && z)) (last p)
          (λ u (d, h, l, w, e).
          let q = ps d h l e in
          and_both x (y && z) (tree_itself (type_of p.0) (plain Truth) (sym (ap type_of q.0) ∙ w.first.wanted))
          (and_both y z (tree_itself t (type_of p.1) ((rows t (type_of h) ds (three d h l) e).0 ∙ ap type_of q.1))
          (tree_itself (type_of p.2) (type_of p.1) (sym (ap type_of q.2) ∙ w.second.1.wanted ∙ ap type_of q.1))))
          (λ f.
          let fx = tree_same (type_of p.0) (plain Truth) (and_left x (y && z) f) in
          let fy = tree_same t (type_of p.1) (and_left y z (and_right x (y && z) f)) in
          let fz = tree_same (type_of p.2) (type_of p.1) (and_right y z (and_right x (y && z) f)) in
          decides_as g (Z p.0 p.1 p.2) P (last p)
          (λ u w. (
            p.0,
            p.1,
            p.2,
            both (Part m a g p.0) (λ v. Part m b g p.1 v × Part m c g p.2 v) (PartAt m (plain Truth) a g p.0)
                (λ v. Part m b g p.1 v × PartAt m (type_of p.1) c g p.2 v)
                (λ v k. over_at m.vars (plain Truth) (Conversions m) (Rule m a g) v p.0 k fx)
                (λ v k. (k.0, over_at m.vars (type_of p.1) (Conversions m) (Rule m c g) v p.2 k.1 fz)) u w,
            as_row t (type_of p.1) ds (three p.0 p.1 p.2) fy same,
          ))
          (λ u (d, h, l, w, e).
          let q = ps d h l e in
          let k : Z d h l u = both (PartAt m (plain Truth) a g d)
          (λ v. Part m b g h v × PartAt m (type_of h) c g l v) (Part m a g d) (λ v. Part m b g h v × Part m c g l v)
          (λ v k. at_over m.vars (plain Truth) (Conversions m) (Rule m a g) v d k)
          (λ v k. (k.0, at_over m.vars (type_of h) (Conversions m) (Rule m c g) v l k.1)) u w in
          subst (λ j. Z p.0 p.1 j u) q.2 (subst (λ j. Z p.0 j l u) q.1 (subst (λ j. Z j h l u) q.0 k)))
          (decides_both g (Part m a g p.0) (λ v. Part m b g p.1 v × Part m c g p.2 v) (whole m.vars (row_walk m a) p.0)
          (branches (whole m.vars (row_walk m b) p.1) (whole m.vars (row_walk m c) p.2)) (A g p.0)
          (decides_branches g (Part m b g p.1) (Part m c g p.2) (whole m.vars (row_walk m b) p.1)
          (whole m.vars (row_walk m c) p.2) (B g p.1) (C g p.2))))
