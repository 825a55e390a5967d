-- The walk over a term and a derivation decides which linear variables the derivation has, form by form.
use Rattle.std.proofs.Common.{◌≡◌, ◌∙◌, ℕ, true, List, Some, slice_get, refl, sym, ap, subst}
use Rattle.std.proofs.lemmas.Option.{same_Some}
use Rattle.fst_types.specs.Tree as type
use Rattle.fst_types.specs.Tree.{Tree, plain, arrow, named}
use Rattle.fst_types.specs.Instance.{instantiated}
use Rattle.fst_types.specs.declared.base.Base.{Base}
use Rattle.fst_types.specs.declared.base.Base.TheVariants.{Int, Bool as Truth, Char, Unit as Nothing}
use Rattle.fst_types.specs.declared.kind.Kind.{Kind}
use Rattle.fst_types.specs.declared.label.Label.TheVariants.{Select, Close, Wait}
use Rattle.fst_lts.specs.Step.{step}
use Rattle.fst_lts.specs.Dual.{dual}
use Rattle.fst_terms.specs.CoreTree.{CoreTree, local, global, int, bool, char, unit, pair, make, lambda, apply, let_in, split, if_else, case_of, operate, negate, new, send, receive, close, wait, select, match_with, fork, seq}
use Rattle.fst_terms.specs.declared.term.Op.{Op}
use Rattle.fst_context.specs.Vars.{Vars, no_vars, single, Both}
use Rattle.fst_context.specs.Scope.{Variable, is_once}
use Rattle.fst_derivations.specs.Deriv.{Deriv, row, type_of, Derivs, none, part, one, two, three}
use Rattle.fst_derivations.specs.Parts.{IsAnyConversion}
use Rattle.fst_derivations.specs.Rules.{Surroundings, Mode, Converted, converting, Over, At, Row, Operates}
use Rattle.fst_fits.specs.Tests.{same_tree, use_in, is_many, is_global_type, is_channel, operates}
use Rattle.fst_rules.specs.Walks.{only, given, taking, has_none, local_row, leaf_row, whole, row_walk}
use Rattle.fst_fits.specs.Fits.{pair_fits, apply_fits, operate_fits, send_fits, seq_fits, negate_fits, receive_fits, close_fits, wait_fits, select_fits, fork_fits}
use Rattle.fst_rules.proofs.Deciding.{Decides, decides_as, decides_only, decides_given, decides_equal}
use Rattle.fst_rules.proofs.DecidingInside.{decides_variable}
use Rattle.fst_rules.proofs.DecidingRows.{decides_leaf, decides_row_1, decides_row_2, decides_whole}
use Rattle.fst_fits.proofs.Laws.{and_left, and_right, and_both, tree_same, tree_itself, has_many, of_many, type_is, of_type}
use Rattle.fst_fits.proofs.Laws.{paired, of_paired, applied, of_applied, operated, of_operated, sent, of_sent, received, of_received, ended, of_ended, channel, of_channel, global_type, of_global_type}

-- ---- rows and their parts

pub rows : (t s : Tree) (ds es : Derivs) → row t ds ≡ row s es → (t ≡ s) × (ds ≡ es)
rows t s ds es e = (cc, cc)

pub as_row : (t s : Tree) (ds es : Derivs) → t ≡ s → ds ≡ es → row t ds ≡ row s es
as_row t s ds es e f = λ i. row (e i) (f i)

pub none_there : (ds : Derivs) → ds ≡ none → has_none ds ≡ true
none_there ds e = ap has_none e

pub none_is : (ds : Derivs) → has_none ds ≡ true → ds ≡ none
none_is none h = refl
none_is (part d ds) h = absurd (cc h)

pub at_over : (vars : List Kind) (t : Tree) (R : Deriv → Deriv → Type 0) (P : Vars → Deriv → Type 0) (u : Vars) (d : Deriv) →
    At vars t R P u d → Over vars R P u d
at_over vars t R P u d x = record { core = x.core; stands = x.stands; rule = x.rule; formed = x.formed }

pub over_at : (vars : List Kind) (t : Tree) (R : Deriv → Deriv → Type 0) (P : Vars → Deriv → Type 0) (u : Vars) (d : Deriv) →
    Over vars R P u d → type_of d ≡ t → At vars t R P u d
over_at vars t R P u d x e = record { core = x.core; stands = x.stands; rule = x.rule; formed = x.formed; wanted = e }

pub both : (P Q R S : Vars → Type 0) → ((u : Vars) → P u → R u) → ((u : Vars) → Q u → S u) → (u : Vars) → Both P Q u → Both R S u
both P Q R S f g u x = record {
  left = x.left;
  right = x.right;
  split = x.split;
  first = f x.left x.first;
  second =
      g x.right x.second;
}

module _ (m : Surroundings) where
  abbrev pub Conversions : Deriv → Deriv → Type 0
  Conversions = Converted (IsAnyConversion m.vars)

  abbrev pub mode : Mode
  mode = converting (IsAnyConversion m.vars)

  -- a row of the term
  abbrev pub Rule : CoreTree → List Variable → Vars → Deriv → Type 0
  Rule e g = Row m mode e g

  -- a derivation of the term
  abbrev pub Part : CoreTree → List Variable → Deriv → Vars → Type 0
  Part e g d u = Over m.vars Conversions (Rule e g) u d

  -- a derivation of the term at a type
  abbrev pub PartAt : Tree → CoreTree → List Variable → Deriv → Vars → Type 0
  PartAt t e g d u = At m.vars t Conversions (Rule e g) u d

  -- each derivation's walk decides
  abbrev pub Parts : CoreTree → Type 0
  Parts e = (g : List Variable) (d : Deriv) → Decides g (Part e g d) (whole m.vars (row_walk m e) d)

  -- each row's walk decides
  abbrev pub Rows : CoreTree → Type 0
  Rows e = (g : List Variable) (t : Tree) (ds : Derivs) → Decides g (λ u. Rule e g u (row t ds)) (row_walk m e t ds)

  pub is_row : (e : CoreTree) (g : List Variable) (u : Vars) (c : Deriv) → Rule e g u c → (t : Tree) × (ds : Derivs) ×
      (c ≡ row t ds)
  is_row (local at k) g u c (v, p, q, e) = (v.type, none, e)
  is_row (global at k ks) g u c (f, t, ts, a, b, x, i, p, e) = (instantiated ts t, none, e)
  is_row (int at n) g u c (p, e) = (plain Int, none, e)
  is_row (bool at b) g u c (p, e) = (plain Truth, none, e)
  is_row (char at n) g u c (p, e) = (plain Char, none, e)
  is_row (unit at) g u c (p, e) = (plain Nothing, none, e)
  is_row (pair at a b) g u c (d, h, x, e) = (type.pair (type_of d) (type_of h), two d h, e)
  is_row (make at n k es) g u c (o, ts, ds, p, q, x, e) = (named n, ds, e)
  is_row (lambda at uses k x a) g u c (t, n, d, p, w, z, o, y, e) = (arrow uses t (type_of d), one d, e)
  is_row (apply at a b) g u c (d, h, uses, s, t, x, p, e) = (t, two d h, e)
  is_row (let_in at x a b) g u c (d, h, n, y, w, e) = (type_of h, two d h, e)
  is_row (split at x y a b) g u c (d, h, s, t, n, o, z, p, i, j, e) = (type_of h, two d h, e)
  is_row (if_else at a b o) g u c (d, k, l, x, e) = (type_of k, three d k l, e)
  is_row (case_of at a bs) g u c (d, n, f, t, ds, x, p, q, l, e) = (t, part d ds, e)
  is_row (operate at o a b) g u c (d, h, s, t, i, x, e) = (t, two d h, e)
  is_row (negate at a) g u c (d, x, e) = (plain Truth, one d, e)
  is_row (new at k) g u c (s, p, i, q, e) = (type.pair s (dual s), none, e)
  is_row (send at a b) g u c (d, h, k, t, x, p, q, e) = (t, two d h, e)
  is_row (receive at a) g u c (d, k, t, x, p, e) = (type.pair (plain k) t, one d, e)
  is_row (close at a) g u c (d, t, x, p, e) = (plain Nothing, one d, e)
  is_row (wait at a) g u c (d, t, x, p, e) = (plain Nothing, one d, e)
  is_row (select at l a) g u c (d, t, x, p, e) = (t, one d, e)
  is_row (match_with at a bs) g u c (d, ls, t, ds, x, i, l, e) = (t, part d ds, e)
  is_row (fork at a) g u c (d, x, w, e) = (plain Nothing, one d, e)
  is_row (seq at a b) g u c (d, h, x, w, e) = (type_of h, two d h, e)

  pub parts : (e : CoreTree) → Rows e → Parts e
  parts e f g d = decides_whole m.vars g (Rule e g) (row_walk m e) (is_row e g) (f g) d

  -- ---- rows without parts

  pub local_rows : (at k : ℕ) → Rows (local at k)
  local_rows at k g t ds =
      decides_equal g P (only (has_none ds) (given (slice_get g k) (λ v. only (same_tree t v.type) (taking k))))
      (local_row k t ds)
      (λ s e. ap (λ vs. only (has_none ds) (given (slice_get vs k) (λ v. only (same_tree t v.type) (taking k))) s) e)
      (decides_only g P (has_none ds) (given (slice_get g k) (λ v. only (same_tree t v.type) (taking k)))
      (λ u (v, p, q, e). none_there ds (rows t v.type ds none e).1)
      (λ h. decides_given g P (slice_get g k) (λ v. only (same_tree t v.type) (taking k)) (λ u (v, p, q, e) n. absurd (cc (p, n)))
      (λ v is. decides_only g P (same_tree t v.type) (taking k)
      (λ u (w, p, q, e). tree_itself t v.type ((rows t w.type ds none e).0 ∙ ap (λ z. z.type) (same_Some w v (sym p ∙ is))))
      (λ b. decides_as g (λ u. u ≡ single (is_once v.uses) k) P (taking k)
      (λ u q. (v, is, q, as_row t v.type ds none (tree_same t v.type b) (none_is ds h)))
      (λ u (w, p, q, e). q ∙ ap (λ z. single (is_once z.uses) k) (same_Some w v (sym p ∙ is))) (decides_variable g k v is)))))
    where
      P : Vars → Type 0
      P u = Rule (local at k) g u (row t ds)

  pub plain_rows : (b : Base) (g : List Variable) (t : Tree) (ds : Derivs) → Decides g
      (λ u. (u ≡ no_vars) × (row t ds ≡ row (plain b) none)) (leaf_row (same_tree t (plain b)) ds)
  plain_rows b g t ds =
      decides_leaf g (λ u. (u ≡ no_vars) × (row t ds ≡ row (plain b) none)) (same_tree t (plain b)) ds
      (λ u (p, e). (p, (rows t (plain b) ds none e).1, tree_itself t (plain b) (rows t (plain b) ds none e).0))
      (λ u p e h. (p, as_row t (plain b) ds none (tree_same t (plain b) h) e))

  pub global_rows : (at k : ℕ) (ks : List ℕ) → Rows (global at k ks)
  global_rows at k ks g t ds =
      decides_leaf g (λ u. Rule (global at k ks) g u (row t ds)) (is_global_type m.vars m.types (slice_get m.globals k) ks t) ds
      (λ u (f, s, args, a, b, x, i, p, e). let r = rows t (instantiated args s) ds none e in
      (p, r.1, of_global_type m.vars m.types (slice_get m.globals k) ks t (f, s, args, a, b, x, i, r.0)))
      (λ u p e h. let (f, s, args, a, b, x, i, r) = global_type m.vars m.types (slice_get m.globals k) ks t h in
      (f, s, args, a, b, x, i, p, as_row t (instantiated args s) ds none r e))

  pub new_rows : (at k : ℕ) → Rows (new at k)
  new_rows at k g t ds =
      decides_leaf g (λ u. Rule (new at k) g u (row t ds)) (is_channel (slice_get m.types k) t) ds
      (λ u (s, p, i, q, e). let r = rows t (type.pair s (dual s)) ds none e in
      (q, r.1, of_channel (slice_get m.types k) t s p i r.0))
      (λ u p e h. let c = channel (slice_get m.types k) t h in
      (c.0, c.1, c.2, p, as_row t (type.pair c.0 (dual c.0)) ds none c.3 e))

  -- ---- rows with one part

  pub negate_rows : (at : ℕ) (a : CoreTree) → Parts a → Rows (negate at a)
  negate_rows at a A g t ds =
      decides_row_1 g (λ u. Rule (negate at a) g u (row t ds)) (negate_fits t) ds (whole m.vars (row_walk m a)) (Part a g) (A g)
      (λ u (d, x, e).
      let r = rows t (plain Truth) ds (one d) e in (
        d,
        r.1,
        and_both (same_tree (type_of d) (plain Truth)) (same_tree t (plain Truth))
            (tree_itself (type_of d) (plain Truth) x.wanted) (tree_itself t (plain Truth) r.0),
        at_over m.vars (plain Truth) Conversions (Rule a g) u d x,
      ))
      (λ u d e h x.
      let p = tree_same (type_of d) (plain Truth) (and_left (same_tree (type_of d) (plain Truth))
      (same_tree t (plain Truth)) h) in
      let q = tree_same t (plain Truth) (and_right (same_tree (type_of d) (plain Truth)) (same_tree t (plain Truth)) h) in
      (d, over_at m.vars (plain Truth) Conversions (Rule a g) u d x p, as_row t (plain Truth) ds (one d) q e))

  pub receive_rows : (at : ℕ) (a : CoreTree) → Parts a → Rows (receive at a)
  receive_rows at a A g t ds =
      decides_row_1 g (λ u. Rule (receive at a) g u (row t ds)) (receive_fits t) ds (whole m.vars (row_walk m a)) (Part a g) (A g)
      (λ u (d, b, s, x, p, e). let r = rows t (type.pair (plain b) s) ds (one d) e in
      (d, r.1, of_received t (type_of d) s b r.0 p, x))
      (λ u d e h x. let c = received t (type_of d) h in
      (d, c.0, c.1, x, c.3, as_row t (type.pair (plain c.0) c.1) ds (one d) c.2 e))

  pub close_rows : (at : ℕ) (a : CoreTree) → Parts a → Rows (close at a)
  close_rows at a A g t ds =
      decides_row_1 g (λ u. Rule (close at a) g u (row t ds)) (close_fits t) ds (whole m.vars (row_walk m a)) (Part a g) (A g)
      (λ u (d, s, x, p, e). let r = rows t (plain Nothing) ds (one d) e in
      (d, r.1, of_ended t (type_of d) s Close r.0 p, x))
      (λ u d e h x. let c = ended t (type_of d) Close h in
      (d, c.0, x, c.2, as_row t (plain Nothing) ds (one d) c.1 e))

  pub wait_rows : (at : ℕ) (a : CoreTree) → Parts a → Rows (wait at a)
  wait_rows at a A g t ds =
      decides_row_1 g (λ u. Rule (wait at a) g u (row t ds)) (wait_fits t) ds (whole m.vars (row_walk m a)) (Part a g) (A g)
      (λ u (d, s, x, p, e). let r = rows t (plain Nothing) ds (one d) e in
      (d, r.1, of_ended t (type_of d) s Wait r.0 p, x))
      (λ u d e h x. let c = ended t (type_of d) Wait h in
      (d, c.0, x, c.2, as_row t (plain Nothing) ds (one d) c.1 e))

  pub select_rows : (at : ℕ) (l : List ℕ) (a : CoreTree) → Parts a → Rows (select at l a)
  select_rows at l a A g t ds =
      decides_row_1 g (λ u. Rule (select at l a) g u (row t ds)) (select_fits l t) ds (whole m.vars (row_walk m a)) (Part a g)
      (A g)
      (λ u (d, s, x, p, e). let r = rows t s ds (one d) e in
      (d, r.1, of_type (step (type_of d) (Select l)) t (p ∙ ap Some (sym r.0)), x))
      (λ u d e h x. (d, t, x, type_is (step (type_of d) (Select l)) t h, as_row t t ds (one d) refl e))

  pub fork_rows : (at : ℕ) (a : CoreTree) → Parts a → Rows (fork at a)
  fork_rows at a A g t ds =
      decides_row_1 g (λ u. Rule (fork at a) g u (row t ds)) (fork_fits m.vars t) ds (whole m.vars (row_walk m a)) (Part a g)
      (A g)
      (λ u (d, x, w, e).
      let r = rows t (plain Nothing) ds (one d) e in (
        d,
        r.1,
        and_both (is_many (use_in m.vars (type_of d))) (same_tree t (plain Nothing)) (of_many m.vars (type_of d) w)
            (tree_itself t (plain Nothing) r.0),
        x,
      ))
      (λ u d e h x.
      let p = has_many m.vars (type_of d) (and_left (is_many (use_in m.vars (type_of d))) (same_tree t (plain Nothing)) h) in
      let q = tree_same t (plain Nothing) (and_right (is_many (use_in m.vars (type_of d))) (same_tree t (plain Nothing)) h) in
      (d, x, p, as_row t (plain Nothing) ds (one d) q e))

  -- ---- rows with two parts

  pub pair_rows : (at : ℕ) (a b : CoreTree) → Parts a → Parts b → Rows (pair at a b)
  pair_rows at a b A B g t ds =
      decides_row_2 g (λ u. Rule (pair at a b) g u (row t ds)) (pair_fits t) ds (whole m.vars (row_walk m a))
      (whole m.vars (row_walk m b)) (Part a g) (Part b g) (A g) (B g)
      (λ u (d, h, x, e). let r = rows t (type.pair (type_of d) (type_of h)) ds (two d h) e in
      (d, h, r.1, of_paired t (type_of d) (type_of h) r.0, x))
      (λ u d h e f x. (d, h, x, as_row t (type.pair (type_of d) (type_of h)) ds (two d h) (paired t (type_of d) (type_of h) f) e))

  pub apply_rows : (at : ℕ) (a b : CoreTree) → Parts a → Parts b → Rows (apply at a b)
  apply_rows at a b A B g t ds =
      decides_row_2 g (λ u. Rule (apply at a b) g u (row t ds)) (apply_fits t) ds (whole m.vars (row_walk m a))
      (whole m.vars (row_walk m b)) (Part a g) (Part b g) (A g) (B g)
      (λ u (d, h, uses, s, r, x, p, e).
      let q = rows t r ds (two d h) e in
      let w : s ≡ type_of h = sym x.second.wanted in (
        d,
        h,
        q.1,
        of_applied (type_of d) (type_of h) t uses (p ∙ (λ i. arrow uses (w i) (sym q.0 i))),
        both (Part a g d) (PartAt s b g h) (Part a g d) (Part b g h) (λ v z. z)
            (λ v z. at_over m.vars s Conversions (Rule b g) v h z) u x,
      ))
      (λ u d h e f x.
      let p = applied (type_of d) (type_of h) t f in (
        d,
        h,
        p.0,
        type_of h,
        t,
        both (Part a g d) (Part b g h) (Part a g d) (PartAt (type_of h) b g h) (λ v z. z)
            (λ v z. over_at m.vars (type_of h) Conversions (Rule b g) v h z refl) u x,
        p.1,
        as_row t t ds (two d h) refl e,
      ))

  pub operate_rows : (at : ℕ) (o : Op) (a b : CoreTree) → Parts a → Parts b → Rows (operate at o a b)
  operate_rows at o a b A B g t ds =
      decides_row_2 g (λ u. Rule (operate at o a b) g u (row t ds)) (operate_fits o t) ds (whole m.vars (row_walk m a))
      (whole m.vars (row_walk m b)) (Part a g) (Part b g) (A g) (B g)
      (λ u (d, h, s, r, i, x, e).
      let q = rows t r ds (two d h) e in
      let same : type_of h ≡ type_of d = x.second.wanted ∙ sym x.first.wanted in
      let fits = of_operated o (type_of d) t (subst
      (λ z. Operates o z t) (sym x.first.wanted) (subst (λ z. Operates o s z) (sym q.0) i)) in (
        d,
        h,
        q.1,
        and_both (same_tree (type_of h) (type_of d)) (operates o (type_of d) t) (tree_itself (type_of h) (type_of d) same) fits,
        both (PartAt s a g d) (PartAt s b g h) (Part a g d) (Part b g h) (λ v z. at_over m.vars s Conversions (Rule a g) v d z)
            (λ v z. at_over m.vars s Conversions (Rule b g) v h z) u x,
      ))
      (λ u d h e f x.
      let same = tree_same (type_of h) (type_of d) (and_left (same_tree (type_of h) (type_of d)) (operates o (type_of d) t) f) in
      let i = operated o (type_of d) t (and_right (same_tree (type_of h) (type_of d)) (operates o (type_of d) t) f) in (
        d,
        h,
        type_of d,
        t,
        i,
        both (Part a g d) (Part b g h) (PartAt (type_of d) a g d) (PartAt (type_of d) b g h)
            (λ v z. over_at m.vars (type_of d) Conversions (Rule a g) v d z refl)
            (λ v z. over_at m.vars (type_of d) Conversions (Rule b g) v h z same) u x,
        as_row t t ds (two d h) refl e,
      ))

  pub send_rows : (at : ℕ) (a b : CoreTree) → Parts a → Parts b → Rows (send at a b)
  send_rows at a b A B g t ds =
      decides_row_2 g (λ u. Rule (send at a b) g u (row t ds)) (send_fits t) ds (whole m.vars (row_walk m a))
      (whole m.vars (row_walk m b)) (Part a g) (Part b g) (A g) (B g)
      (λ u (d, h, k, r, x, p, q, e). let w = rows t r ds (two d h) e in
      (d, h, w.1, of_sent (type_of d) (type_of h) t k p (q ∙ ap Some (sym w.0)), x))
      (λ u d h e f x. let c = sent (type_of d) (type_of h) t f in (d, h, c.0, t, x, c.1, c.2, as_row t t ds (two d h) refl e))

  pub seq_rows : (at : ℕ) (a b : CoreTree) → Parts a → Parts b → Rows (seq at a b)
  seq_rows at a b A B g t ds =
      decides_row_2 g (λ u. Rule (seq at a b) g u (row t ds)) (seq_fits m.vars t) ds (whole m.vars (row_walk m a))
      (whole m.vars (row_walk m b)) (Part a g) (Part b g) (A g) (B g)
      (λ u (d, h, x, w, e).
      let r = rows t (type_of h) ds (two d h) e in (
        d,
        h,
        r.1,
        and_both (is_many (use_in m.vars (type_of d))) (same_tree t (type_of h)) (of_many m.vars (type_of d) w)
            (tree_itself t (type_of h) r.0),
        x,
      ))
      (λ u d h e f x.
      let p = has_many m.vars (type_of d) (and_left (is_many (use_in m.vars (type_of d))) (same_tree t (type_of h)) f) in
      let q = tree_same t (type_of h) (and_right (is_many (use_in m.vars (type_of d))) (same_tree t (type_of h)) f) in
      (d, h, x, p, as_row t (type_of h) ds (two d h) q e))
