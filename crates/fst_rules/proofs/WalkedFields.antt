-- The same of a constructor and its arguments.
use Rattle.std.proofs.Common.{◌≡◌, ◌∙◌, ℕ, true, List, [], ◌∷◌, Some, slice_get, refl, sym, ap, subst}
use Rattle.std.proofs.lemmas.Option.{same_Some}
use Rattle.fst_types.specs.Tree.{Tree, named}
use Rattle.fst_terms.specs.CoreTree.{CoreTree, make, CoreList, no_terms, term}
use Rattle.fst_terms.specs.InRange.{maker_of}
use Rattle.fst_context.specs.Vars.{Vars, no_vars, Both}
use Rattle.fst_context.specs.Scope.{Variable}
use Rattle.fst_derivations.specs.Deriv.{Deriv, row, type_of, Derivs, none, part}
use Rattle.fst_derivations.specs.Parts.{AreAt}
use Rattle.fst_derivations.specs.Rules.{Surroundings, Fields}
use Rattle.fst_fits.specs.Tests.{same_tree, is_type}
use Rattle.fst_rules.specs.Walks.{given, after, has_none, whole, row_walk, fields_walk}
use Rattle.fst_rules.proofs.Deciding.{Decides, decides_as, decides_none, decides_never, decides_only, decides_given, decides_both}
use Rattle.fst_fits.proofs.Laws.{tree_same, tree_itself, type_is, of_type}
use Rattle.fst_rules.proofs.Walked.{Conversions, mode, Rule, Part, PartAt, Parts, Rows, rows, as_row, at_over, over_at, both, none_there, none_is}

same_part : (d h : Deriv) (ds es : Derivs) → part d ds ≡ part h es → (d ≡ h) × (ds ≡ es)
same_part d h ds es e = (cc, cc)

module _ (m : Surroundings) where
  -- arguments of fields with these types
  abbrev pub Arguments : CoreList → List Variable → List ℕ → Derivs → Vars → Type 0
  Arguments es g ks ds u = (ts : List Tree) × AreAt m.types ks ts × Fields m (mode m) es ts g u ds

  abbrev pub Lists : CoreList → Type 0
  Lists es = (g : List Variable) (ks : List ℕ) (ds : Derivs) → Decides g (Arguments es g ks ds) (fields_walk m es ks ds)

  pub no_terms_lists : Lists no_terms
  no_terms_lists g [] ds =
      decides_only g (Arguments no_terms g [] ds) (has_none ds) Some (λ u (ts, a, x). none_there ds (is_none ts u a x))
      (λ h. decides_as g (λ u. u ≡ no_vars) (Arguments no_terms g [] ds) Some (λ u e. ([], tt, (e, none_is ds h)))
      (λ u (ts, a, x). no_more ts u a x) (decides_none g))
    where
      is_none : (ts : List Tree) (u : Vars) → AreAt m.types [] ts → Fields m (mode m) no_terms ts g u ds → ds ≡ none
      is_none [] u a x = x.1
      is_none (t ∷ ts) u a x = absurd a

      no_more : (ts : List Tree) (u : Vars) → AreAt m.types [] ts → Fields m (mode m) no_terms ts g u ds → u ≡ no_vars
      no_more [] u a x = x.0
      no_more (t ∷ ts) u a x = absurd a
  no_terms_lists g (k ∷ ks) ds = decides_never g (Arguments no_terms g (k ∷ ks) ds) (λ u (ts, a, x). wrong ts u a x)
    where
      wrong : (ts : List Tree) (u : Vars) → AreAt m.types (k ∷ ks) ts → Fields m (mode m) no_terms ts g u ds → ⊥
      wrong [] u a x = a
      wrong (t ∷ ts) u a x = x

  pub term_lists : (e : CoreTree) (es : CoreList) → Parts m e → Lists es → Lists (term e es)
  term_lists e es A F g [] ds = decides_never g (Arguments (term e es) g [] ds) (λ u (ts, a, x). wrong ts u a x)
    where
      wrong : (ts : List Tree) (u : Vars) → AreAt m.types [] ts → Fields m (mode m) (term e es) ts g u ds → ⊥
      wrong [] u a x = x
      wrong (t ∷ ts) u a x = a
  term_lists e es A F g (k ∷ ks) none = decides_never g (Arguments (term e es) g (k ∷ ks) none) (λ u (ts, a, x). wrong ts u a x)
    where
      wrong : (ts : List Tree) (u : Vars) → AreAt m.types (k ∷ ks) ts → Fields m (mode m) (term e es) ts g u none → ⊥
      wrong [] u a x = a
      wrong (t ∷ ts) u a (d, more, z, f) = absurd (cc f)
  term_lists e es A F g (k ∷ ks) (part d ds) =
      decides_only g P (is_type (slice_get m.types k) (type_of d))
      (after (whole m.vars (row_walk m e) d) (fields_walk m es ks ds)) (λ u (ts, a, x). fits ts u a x)
      (λ h. decides_as g (Both (Part m e g d) (Arguments es g ks ds)) P
      (after (whole m.vars (row_walk m e) d) (fields_walk m es ks ds)) (λ u x. to u h x) (λ u (ts, a, x). from ts u a x)
      (decides_both g (Part m e g d) (Arguments es g ks ds) (whole m.vars (row_walk m e) d) (fields_walk m es ks ds) (A g d)
      (F g ks ds)))
    where
      P : Vars → Type 0
      P = Arguments (term e es) g (k ∷ ks) (part d ds)

      fits : (ts : List Tree) (u : Vars) → AreAt m.types (k ∷ ks) ts → Fields m (mode m) (term e es) ts g u (part d ds) →
          is_type (slice_get m.types k) (type_of d) ≡ true
      fits [] u a x = absurd a
      fits (t ∷ ts) u a (d', more, z, f) =
          let pd = (same_part d d' ds more f).0 in
          of_type (slice_get m.types k) (type_of d) (a.0 ∙ ap Some (sym (ap type_of pd ∙ z.first.wanted)))

      from : (ts : List Tree) (u : Vars) → AreAt m.types (k ∷ ks) ts → Fields m (mode m) (term e es) ts g u (part d ds) →
          Both (Part m e g d) (Arguments es g ks ds) u
      from [] u a x = absurd a
      from (t ∷ ts) u a (d', more, z, f) =
          let same = same_part d d' ds more f in
          let z' = both (PartAt m t e g d') (λ w. Fields m (mode m) es ts g w more) (Part m e g d') (Arguments es g ks more)
          (λ v y. at_over m.vars t (Conversions m) (Rule m e g) v d' y) (λ v y. (ts, a.1, y)) u z in
          subst (λ y. Both (Part m e g d) (Arguments es g ks y) u) (sym same.1)
          (subst (λ y. Both (Part m e g y) (Arguments es g ks more) u) (sym same.0) z')

      to : (u : Vars) → is_type (slice_get m.types k) (type_of d) ≡ true → Both (Part m e g d) (Arguments es g ks ds) u → P u
      to u h z =
          let ts = z.second.0 in (
            type_of d ∷ ts,
            (type_is (slice_get m.types k) (type_of d) h, z.second.1),
            (
              d,
              ds,
              record {
                left = z.left;
                right = z.right;
                split = z.split;
                first = over_at m.vars (type_of d) (Conversions m) (Rule m e g) z.left d z.first refl;
                second = z.second.2;
              },
              refl,
            ),
          )

  pub make_rows : (at n k : ℕ) (es : CoreList) → Lists es → Rows m (make at n k es)
  make_rows at n k es F g t ds =
      decides_only g P (same_tree t (named n)) (given (maker_of (slice_get m.families n) k)
      (λ o. fields_walk m es o.fields.items ds))
      (λ u (o, ts, es', p, q, x, e). tree_itself t (named n) (rows t (named n) ds es' e).0)
      (λ h. decides_given g P (maker_of (slice_get m.families n) k) (λ o. fields_walk m es o.fields.items ds)
      (λ u (o, ts, es', p, q, x, e) f. let z = sym f ∙ p in absurd (cc z))
      (λ o is. decides_as g (Arguments es g o.fields.items ds) P (fields_walk m es o.fields.items ds)
      (λ u (ts, a, x). (o, ts, ds, is, a, x, as_row t (named n) ds ds (tree_same t (named n) h) refl))
      (λ u (o', ts, es', p, q, x, e).
      let same : o' ≡ o = same_Some o' o (sym p ∙ is) in
      let parts = (rows t (named n) ds es' e).1 in
      (ts, subst (λ y. AreAt m.types y.fields.items ts) same q, subst (λ y. Fields m (mode m) es ts g u y) (sym parts) x))
      (F g o.fields.items ds)))
    where
      P : Vars → Type 0
      P u = Rule m (make at n k es) g u (row t ds)
