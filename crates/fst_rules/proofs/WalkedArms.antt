-- The same of arms.
use Rattle.std.proofs.Common.{◌≡◌, ◌∙◌, ℕ, suc, Bool, true, false, List, [], ◌∷◌, length, map, Option, Some, None, slice_get, refl, sym, ap, subst}
use Rattle.std.proofs.lemmas.Option.{same_Some}
use Rattle.fst_base.proofs.Alls.{all_any}
use Rattle.fst_types.specs.Tree.{Tree, named}
use Rattle.fst_types.specs.declared.family.Family.{Family}
use Rattle.fst_types.specs.declared.family.Maker.{Maker}
use Rattle.fst_types.specs.declared.kind.Kind.{Kind}
use Rattle.fst_types.specs.declared.kind.Use.{Use}
use Rattle.fst_types.specs.declared.label.Label.TheVariants.{Offer}
use Rattle.fst_lts.specs.Step.{step, labels}
use Rattle.fst_terms.specs.CoreTree.{CoreTree, case_of, match_with, CoreArms, no_arms, arm}
use Rattle.fst_terms.specs.InRange.{maker_named}
use Rattle.fst_terms.specs.declared.binder.Binder.{Binder}
use Rattle.fst_arms.specs.Arms.{arm_labels, AreEachOnce}
use Rattle.fst_context.specs.Vars.{Vars, under, Both}
use Rattle.fst_context.specs.Scope.{Scope, Variable, is_once, entered, without}
use Rattle.fst_derivations.specs.Deriv.{Deriv, row, type_of, Derivs, none, part}
use Rattle.fst_derivations.specs.Parts.{AreVariables, enter_all, under_all, IsOffering}
use Rattle.fst_derivations.specs.Rules.{Surroundings, Binding, fields, rest, Binds, Arms, FurtherArms}
use Rattle.fst_fits.specs.ArmTests.{each_once, offers}
use Rattle.fst_fits.specs.Tests.{same_tree, use_in, types_at, family_number}
use Rattle.fst_rules.specs.Walks.{Walk, next, only, given, after, closed, inside, has_none, parts_more, bound_types, entered_all, closed_all, inside_all, arm_walk, further, family_of, whole, row_walk, arms_walk, further_walk}
use Rattle.fst_rules.proofs.Deciding.{Decides, decides_as, decides_never, decides_only, decides_given, decides_both, decides_equal}
use Rattle.fst_rules.proofs.DecidingInside.{decides_inside, Agrees, decides_agreed, agrees_further}
use Rattle.fst_fits.proofs.Laws.{tree_same, tree_itself, has_use, of_use, types_are, are_types}
use Rattle.fst_fits.proofs.Laws.{family_is}
use Rattle.fst_fits.proofs.Laws.{once, of_once, offering, of_offering}
use Rattle.fst_rules.proofs.Walked.{Conversions, mode, Rule, Part, Parts, Rows, rows, as_row, at_over, over_at, none_there, none_is}

same_part : (d h : Deriv) (ds es : Derivs) → part d ds ≡ part h es → (d ≡ h) × (ds ≡ es)
same_part d h ds es e = (cc, cc)

next_twice : (o : Option Scope) (F G : Walk) → next (next o F) G ≡ next o (λ s. next (F s) G)
next_twice None F G = refl
next_twice (Some s) F G = refl

-- ---- variables of arms

-- variables of these types, in which a set is taken
abbrev pub InVariables : List Kind → List Binder → List Tree → List Variable → (List Variable → Vars → Type 0) → Vars → Type 0
InVariables vars xs ts g P u = (vs : List Variable) × AreVariables vars ts vs ×
    (length xs ≡ length vs) × P (enter_all vs g) (under_all vs u)

same_length : (m n : ℕ) → suc m ≡ suc n → m ≡ n
same_length m n e = cc

module _ (vars : List Kind) (P : List Variable → Vars → Type 0) (F : Walk) (d : (g : List Variable) → Decides g (P g) F) where
  some_again : (o : Option Scope) → next o Some ≡ o
  some_again None = refl
  some_again (Some s) = refl

  one_inside : (x : Binder) (xs : List Binder) (t : Tree) (ts : List Tree) (o : Option Use) (s : Scope) →
      next (next o (λ n. entered_all vars xs ts (entered x.name (record { type = t; uses = n }) s)))
      (λ r. next (F r) (closed_all (suc (length xs))))
      ≡ given o (λ n. inside x.name (record { type = t; uses = n }) (inside_all vars xs ts F)) s
  one_inside x xs t ts None s = refl
  one_inside x xs t ts (Some n) s =
      let o = entered_all vars xs ts (entered x.name (record { type = t; uses = n }) s) in
      go o
    where
      inner : (q : Option Scope) → next q (closed_all (suc (length xs))) ≡ next (next q (closed_all (length xs))) closed
      inner None = refl
      inner (Some z) = refl

      go : (q : Option Scope) → next q (λ r. next (F r) (closed_all (suc (length xs)))) ≡ next
          (next q (λ r. next (F r) (closed_all (length xs)))) closed
      go None = refl
      go (Some r) = inner (F r)

  pub decides_inside_all : (xs : List Binder) (ts : List Tree) (g : List Variable) →
      Decides g (InVariables vars xs ts g P) (inside_all vars xs ts F)
  decides_inside_all [] [] g =
      decides_as g (P g) (InVariables vars [] [] g P) (inside_all vars [] [] F) (λ u x. ([], tt, refl, x))
      (λ u (vs, a, n, x). from u vs a x)
      (decides_equal g (P g) F (inside_all vars [] [] F) (λ s e. some_again (F s)) (d g))
    where
      from : (u : Vars) (vs : List Variable) → AreVariables vars [] vs → P (enter_all vs g) (under_all vs u) → P g u
      from u [] a x = x
      from u (v ∷ vs) a x = absurd a
  decides_inside_all [] (t ∷ ts) g = decides_never g (InVariables vars [] (t ∷ ts) g P) (λ u (vs, a, n, x). wrong vs a n)
    where
      wrong : (vs : List Variable) → AreVariables vars (t ∷ ts) vs → length {A = Binder} [] ≡ length vs → ⊥
      wrong [] a n = a
      wrong (v ∷ vs) a n = cc
  decides_inside_all (x ∷ xs) [] g = decides_never g (InVariables vars (x ∷ xs) [] g P) (λ u (vs, a, n, y). wrong vs a n)
    where
      wrong : (vs : List Variable) → AreVariables vars [] vs → length (x ∷ xs) ≡ length vs → ⊥
      wrong [] a n = cc
      wrong (v ∷ vs) a n = a
  decides_inside_all (x ∷ xs) (t ∷ ts) g =
      decides_equal g Q (given (use_in vars t) G) (inside_all vars (x ∷ xs) (t ∷ ts) F)
      (λ s e. one_inside x xs t ts (use_in vars t) s)
      (decides_given g Q (use_in vars t) G (λ u (vs, a, n, y). none_used vs a)
      (λ n is. decides_as g (R n) Q (G n) (λ u y. to n is u y) (λ u (vs, a, l, y). from n is u vs a l y)
      (decides_inside g x.name (record { type = t; uses = n }) (InVariables vars xs ts (record { type = t; uses = n } ∷ g) P)
      (inside_all vars xs ts F)
      (decides_inside_all xs ts (record { type = t; uses = n } ∷ g)))))
    where
      Q : Vars → Type 0
      Q = InVariables vars (x ∷ xs) (t ∷ ts) g P

      G : Use → Walk
      G n = inside x.name (record { type = t; uses = n }) (inside_all vars xs ts F)

      R : Use → Vars → Type 0
      R n u = InVariables vars xs ts (record { type = t; uses = n } ∷ g) P (under (is_once n) u)

      none_used : (vs : List Variable) → AreVariables vars (t ∷ ts) vs → use_in vars t ≡ None → ⊥
      none_used [] a e = a
      none_used (v ∷ vs) a e = let z = sym e ∙ of_use vars t v.uses a.1 in absurd (cc z)

      to : (n : Use) → use_in vars t ≡ Some n → (u : Vars) → R n u → Q u
      to n is u (vs, a, l, y) = (record { type = t; uses = n } ∷ vs, (refl, has_use vars t n is, a), ap suc l, y)

      from : (n : Use) → use_in vars t ≡ Some n → (u : Vars) (vs : List Variable) → AreVariables vars (t ∷ ts) vs →
          length (x ∷ xs) ≡ length vs → P (enter_all vs g) (under_all vs u) → R n u
      from n is u [] a l y = absurd a
      from n is u (v ∷ vs) a l y =
          let uses : v.uses ≡ n = same_Some v.uses n (sym (of_use vars t v.uses a.1) ∙ is) in
          let types : v.type ≡ t = a.0 in
          let Z = λ (w : Variable). P (enter_all vs (w ∷ g)) (under_all vs (under (is_once w.uses) u)) in
          (vs, a.2, same_length (length xs) (length vs) l, subst Z (λ i. record { type = types i; uses = uses i }) y)

module _ (m : Surroundings) where
  -- ---- what arms bind

  bound : (B : Binding) (l : List ℕ) (ts : List Tree) → bound_types m B l ≡ Some ts → Binds m B l ts
  bound (fields ms) l ts h = pick (maker_named l ms) refl h
    where
      pick : (o : Option Maker) → maker_named l ms ≡ o → next o (λ c. types_at m.types c.fields.items) ≡ Some ts →
          Binds m (fields ms) l ts
      pick None e h = absurd (cc h)
      pick (Some c) e h = (c, e, types_are m.types c.fields.items ts h)
  bound (rest s) l ts h = pick (step s (Offer l)) refl h
    where
      pick : (o : Option Tree) → step s (Offer l) ≡ o → next o (λ t. Some (t ∷ [])) ≡ Some ts → Binds m (rest s) l ts
      pick None e h = absurd (cc h)
      pick (Some t) e h = (t, e, sym (same_Some (t ∷ []) ts h))

  of_bound : (B : Binding) (l : List ℕ) (ts : List Tree) → Binds m B l ts → bound_types m B l ≡ Some ts
  of_bound (fields ms) l ts (c, p, a) = ap (λ o. next o (λ c. types_at m.types c.fields.items)) p
      ∙ are_types m.types c.fields.items ts a
  of_bound (rest s) l ts (t, p, e) = ap (λ o. next o (λ t. Some (t ∷ []))) p ∙ ap Some (sym e)

  -- ---- one arm

  -- a derivation of an arm
  abbrev pub Arm : Binding → List ℕ → List Binder → CoreTree → List Variable → Deriv → Vars → Type 0
  Arm B l xs e g d u = (ts : List Tree) × Binds m B l ts × InVariables m.vars xs ts g (λ h. Part m e h d) u

  pub decides_arm : (B : Binding) (l : List ℕ) (xs : List Binder) (e : CoreTree) → Parts m e → (g : List Variable) (d : Deriv) →
      Decides g (Arm B l xs e g d) (arm_walk m.vars (bound_types m B l) xs (whole m.vars (row_walk m e) d))
  decides_arm B l xs e A g d =
      decides_given g (Arm B l xs e g d) (bound_types m B l) (λ ts. inside_all m.vars xs ts (whole m.vars (row_walk m e) d))
      (λ u (ts, b, x) f. let z = sym f ∙ of_bound B l ts b in absurd (cc z))
      (λ ts is. decides_as g (InVariables m.vars xs ts g (λ h. Part m e h d)) (Arm B l xs e g d)
      (inside_all m.vars xs ts (whole m.vars (row_walk m e) d))
      (λ u x. (ts, bound B l ts is, x))
      (λ u (ts', b, x). let same : ts' ≡ ts = same_Some ts' ts (sym (of_bound B l ts' b) ∙ is) in subst
      (λ y. InVariables m.vars xs y g (λ h. Part m e h d) u) same x)
      (decides_inside_all m.vars (λ h. Part m e h d) (whole m.vars (row_walk m e) d) (λ h. A h d) xs ts g))

  -- ---- further arms

  abbrev pub Further : Binding → CoreArms → List Variable → Tree → Derivs → Vars → Type 0
  Further B bs g t ds u = FurtherArms m (mode m) B bs g u t ds

  -- the walk over further arms from a scope decides whether a set that was taken is theirs
  abbrev pub Furthers : CoreArms → Type 0
  Furthers bs = (B : Binding) (g : List Variable) (t : Tree) (ds : Derivs) →
      Agrees g (Further B bs g t ds) (further_walk m B bs t ds)

  pub no_furthers : Furthers no_arms
  no_furthers B g t ds = record {
    sound = λ s r u e w h. let p = passed (has_none ds) (without u s) r h in (none_is ds p.0, sym p.1);
    complete = λ s u e w q. ap (λ b. only b Some (without u s)) (none_there ds q);
  }
    where
      passed : (b : Bool) (s r : Scope) → only b Some s ≡ Some r → (b ≡ true) × (s ≡ r)
      passed true s r h = (refl, same_Some s r h)
      passed false s r h = absurd (cc h)

  pub one_further : (l : List ℕ) (xs : List Binder) (e : CoreTree) (bs : CoreArms) → Parts m e → Furthers bs →
      Furthers (arm l xs e bs)
  one_further l xs e bs A next_ones B g t none = record {
    sound = λ s r u p w h. absurd (cc h);
    complete = λ s u p w (ts, vs, d, more, i, v, b, n, y, z, f). absurd (cc f);
  }
  one_further l xs e bs A next_ones B g t (part d ds) =
      let rest_agrees = agrees_further g (Arm B l xs e g d) (Further B bs g t ds)
      (arm_walk m.vars (bound_types m B l) xs (whole m.vars (row_walk m e) d)) (further_walk m B bs t ds)
      (decides_arm B l xs e A g d) (next_ones B g t ds) in
      record {
        sound = λ s r u p w h.
            let q = passed (same_tree (type_of d) t) (λ z. next
            (further (arm_walk m.vars (bound_types m B l) xs (whole m.vars (row_walk m e) d)) s z)
            (further_walk m B bs t ds s)) (without u s) r h in
            let z = rest_agrees.sound s r u p w q.1 in
            (to q.0 u z.0, z.1);
        complete = λ s u p w z.
            ap (λ b. only b (λ z. next (further (arm_walk m.vars (bound_types m B l) xs (whole m.vars (row_walk m e) d)) s z)
            (further_walk m B bs t ds s)) (without u s)) (fits u z)
            ∙ rest_agrees.complete s u p w (from u z);
      }
    where
      passed : (b : Bool) (F : Walk) (s r : Scope) → only b F s ≡ Some r → (b ≡ true) × (F s ≡ Some r)
      passed true F s r h = (refl, h)
      passed false F s r h = absurd (cc h)

      fits : (u : Vars) → Further B (arm l xs e bs) g t (part d ds) u → same_tree (type_of d) t ≡ true
      fits u (ts, vs, d', more, i, v, b, n, y, z, f) =
          tree_itself (type_of d) t (ap type_of (same_part d d' ds more f).0 ∙ y.wanted)

      to : same_tree (type_of d) t ≡ true → (u : Vars) → Arm B l xs e g d u × Further B bs g t ds u →
          Further B (arm l xs e bs) g t (part d ds) u
      to h u ((ts, i, (vs, v, n, y)), z) = (
        ts,
        vs,
        d,
        ds,
        i,
        v,
        all_any ts,
        n,
        over_at m.vars t (Conversions m) (Rule m e (enter_all vs g)) (under_all vs u) d y
            (tree_same (type_of d) t h),
        z,
        refl,
      )

      from : (u : Vars) → Further B (arm l xs e bs) g t (part d ds) u → Arm B l xs e g d u × Further B bs g t ds u
      from u (ts, vs, d', more, i, v, b, n, y, z, f) =
          let same = same_part d d' ds more f in
          let y' = at_over m.vars t (Conversions m) (Rule m e (enter_all vs g)) (under_all vs u) d' y in (
            (ts, i, (vs, v, n, subst (λ k. Part m e (enter_all vs g) k (under_all vs u)) (sym same.0) y')),
            subst
                (λ k. Further B bs g t k u) (sym same.1) z,
          )

  -- ---- all arms

  abbrev pub ArmsOf : Binding → CoreArms → List Variable → Tree → Derivs → Vars → Type 0
  ArmsOf B bs g t ds u = Arms m (mode m) B bs g u t ds

  abbrev pub All : CoreArms → Type 0
  All bs = (B : Binding) (g : List Variable) (t : Tree) (ds : Derivs) → Decides g (ArmsOf B bs g t ds) (arms_walk m B bs t ds)

  pub no_all : All no_arms
  no_all B g t ds = decides_never g (ArmsOf B no_arms g t ds) (λ u x. x)

  pub arm_all : (l : List ℕ) (xs : List Binder) (e : CoreTree) (bs : CoreArms) → Parts m e → Furthers bs → All (arm l xs e bs)
  arm_all l xs e bs A next_ones B g t none =
      decides_never g (ArmsOf B (arm l xs e bs) g t none) (λ u (ts, vs, d, more, i, v, b, n, y, z, k, f). absurd (cc f))
  arm_all l xs e bs A next_ones B g t (part d ds) =
      decides_only g P (same_tree (type_of d) t) (λ s. next (G s) (further_walk m B bs t ds s))
      (λ u (ts, vs, d', more, i, v, b, n, y, z, k, f). tree_itself (type_of d) t (ap type_of (same_part d d' ds more f).0 ∙ z))
      (λ h. decides_as g (λ u. Arm B l xs e g d u × Further B bs g t ds u) P (λ s. next (G s) (further_walk m B bs t ds s))
      (λ u ((ts, i, (vs, v, n, y)), k). (ts, vs, d, ds, i, v, all_any ts, n, y, tree_same (type_of d) t h, k, refl))
      (λ u (ts, vs, d', more, i, v, b, n, y, z, k, f).
      let same = same_part d d' ds more f in (
        (ts, i, (vs, v, n, subst (λ j. Part m e (enter_all vs g) j (under_all vs u)) (sym same.0) y)),
        subst
            (λ j. Further B bs g t j u) (sym same.1) k,
      ))
      (decides_agreed g (Arm B l xs e g d) (Further B bs g t ds) G (further_walk m B bs t ds) (decides_arm B l xs e A g d)
      (next_ones B g t ds)))
    where
      G : Walk
      G = arm_walk m.vars (bound_types m B l) xs (whole m.vars (row_walk m e) d)

      P : Vars → Type 0
      P = ArmsOf B (arm l xs e bs) g t (part d ds)

  -- ---- a value of a data type, and a channel

  more_of : (ds : Derivs) (p : Deriv × Derivs) → parts_more ds ≡ Some p → ds ≡ part p.0 p.1
  more_of none p h = absurd (cc h)
  more_of (part d ds) p h = λ i. part (same_Some (d, ds) p h i).0 (same_Some (d, ds) p h i).1

  family_some : (t : Tree) (o : Option ℕ) (f : Family) → family_number t ≡ o → family_of m.families o ≡ Some f → (n : ℕ) ×
      (t ≡ named n) × (slice_get m.families n ≡ Some f)
  family_some t None f e h = absurd (cc h)
  family_some t (Some n) f e h = (n, family_is t n e, h)

  pub case_rows : (at : ℕ) (a : CoreTree) (bs : CoreArms) → Parts m a → All bs → Rows m (case_of at a bs)
  case_rows at a bs A F g t ds =
      decides_given g P (parts_more ds) G (λ u (d, n, f, t', es, x, p, q, l, e) h. let z = sym h
      ∙ ap parts_more (rows t t' ds (part d es) e).1 in absurd (cc z))
      (λ p is. outer p (more_of ds p is))
    where
      P : Vars → Type 0
      P u = Rule m (case_of at a bs) g u (row t ds)

      last : Deriv × Derivs → Family → Walk
      last p f = after (whole m.vars (row_walk m a) p.0) (arms_walk m (fields f.makers.items) bs t p.1)

      G' : Deriv × Derivs → Family → Walk
      G' p f = only (each_once (map (λ o. o.name) f.makers.items) (arm_labels bs)) (last p f)

      G : Deriv × Derivs → Walk
      G p = given (family_of m.families (family_number (type_of p.0))) (G' p)

      outer : (p : Deriv × Derivs) → ds ≡ part p.0 p.1 → Decides g P (G p)
      outer p same =
          let pd = λ (d : Deriv) (es : Derivs) (t' : Tree) (e : row t ds ≡ row t' (part d es)). same_part d p.0 es p.1
          (sym (rows t t' ds (part d es) e).1 ∙ same) in
          let there = λ (d : Deriv) (es : Derivs) (t' : Tree) (e : row t ds ≡ row t' (part d es)) (n : ℕ) (f : Family)
          (k : type_of d ≡ named n) (q : slice_get m.families n ≡ Some f).
          ap (λ z. family_of m.families (family_number z)) (sym (ap type_of (pd d es t' e).0) ∙ k) ∙ q in
          let Z = λ (d : Deriv) (f : Family) (t' : Tree) (es : Derivs) (u : Vars). Both (Part m a g d)
          (ArmsOf (fields f.makers.items) bs g t' es) u in
          decides_given g P (family_of m.families (family_number (type_of p.0))) (G' p)
          (λ u (d, n, f, t', es, x, k, q, l, e) h. let z = sym h ∙ there d es t' e n f k q in absurd (cc z))
          (λ f is. decides_only g P (each_once (map (λ o. o.name) f.makers.items) (arm_labels bs)) (last p f)
          (λ u (d, n, f', t', es, x, k, q, l, e).
          let pf : f' ≡ f = same_Some f' f (sym (there d es t' e n f' k q) ∙ is) in
          of_once (map (λ o. o.name) f.makers.items) (arm_labels bs)
          (subst (λ z. AreEachOnce (map (λ o. o.name) z.makers.items) (arm_labels bs)) pf l))
          (λ h. decides_as g (Z p.0 f t p.1) P (last p f)
          (λ u x. let s = family_some (type_of p.0) (family_number (type_of p.0)) f refl is in (
            p.0,
            s.0,
            f,
            t,
            p.1,
            x,
            s.1,
            s.2,
            once (map (λ o. o.name) f.makers.items) (arm_labels bs) h,
            as_row t t ds (part p.0 p.1) refl same,
          ))
          (λ u (d, n, f', t', es, x, k, q, l, e).
          let pf : f' ≡ f = same_Some f' f (sym (there d es t' e n f' k q) ∙ is) in
          let pt = (rows t t' ds (part d es) e).0 in
          subst (λ z. Z p.0 f t z u) (pd d es t' e).1
          (subst (λ z. Z p.0 f z es u) (sym pt) (subst
          (λ z. Z p.0 z t' es u) pf (subst (λ z. Z z f' t' es u) (pd d es t' e).0 x))))
          (decides_both g (Part m a g p.0) (ArmsOf (fields f.makers.items) bs g t p.1) (whole m.vars (row_walk m a) p.0)
          (arms_walk m (fields f.makers.items) bs t p.1) (A g p.0) (F (fields f.makers.items) g t p.1))))

  pub match_rows : (at : ℕ) (a : CoreTree) (bs : CoreArms) → Parts m a → All bs → Rows m (match_with at a bs)
  match_rows at a bs A F g t ds =
      decides_given g P (parts_more ds) G (λ u (d, ls, t', es, x, i, l, e) h. let z = sym h
      ∙ ap parts_more (rows t t' ds (part d es) e).1 in absurd (cc z))
      (λ p is. outer p (more_of ds p is))
    where
      P : Vars → Type 0
      P u = Rule m (match_with at a bs) g u (row t ds)

      last : Deriv × Derivs → Walk
      last p = after (whole m.vars (row_walk m a) p.0) (arms_walk m (rest (type_of p.0)) bs t p.1)

      G : Deriv × Derivs → Walk
      G p = only (offers (labels (type_of p.0)) (arm_labels bs)) (last p)

      outer : (p : Deriv × Derivs) → ds ≡ part p.0 p.1 → Decides g P (G p)
      outer p same =
          let pd = λ (d : Deriv) (es : Derivs) (t' : Tree) (e : row t ds ≡ row t' (part d es)). same_part d p.0 es p.1
          (sym (rows t t' ds (part d es) e).1 ∙ same) in
          let Z = λ (d : Deriv) (t' : Tree) (es : Derivs) (u : Vars). Both (Part m a g d)
          (ArmsOf (rest (type_of d)) bs g t' es) u in
          decides_only g P (offers (labels (type_of p.0)) (arm_labels bs)) (last p)
          (λ u (d, ls, t', es, x, i, l, e). of_offering (type_of p.0) ls (arm_labels bs)
          (subst (λ z. IsOffering (type_of z) ls) (pd d es t' e).0 i) l)
          (λ h. decides_as g (Z p.0 t p.1) P (last p)
          (λ u x. let o = offering (type_of p.0) (arm_labels bs) h in
          (p.0, o.0, t, p.1, x, o.1, o.2, as_row t t ds (part p.0 p.1) refl same))
          (λ u (d, ls, t', es, x, i, l, e).
          let pt = (rows t t' ds (part d es) e).0 in
          subst (λ z. Z p.0 t z u) (pd d es t' e).1 (subst
          (λ z. Z p.0 z es u) (sym pt) (subst (λ z. Z z t' es u) (pd d es t' e).0 x)))
          (decides_both g (Part m a g p.0) (ArmsOf (rest (type_of p.0)) bs g t p.1) (whole m.vars (row_walk m a) p.0)
          (arms_walk m (rest (type_of p.0)) bs t p.1) (A g p.0) (F (rest (type_of p.0)) g t p.1)))
