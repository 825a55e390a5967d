-- The linear variables of a derivation are those that its term has free.
use Rattle.std.proofs.Common.{◌≡◌, ◌∙◌, ℕ, zero, suc, Bool, true, false, ◌&&◌, ◌||◌, List, [], ◌∷◌, Some, length, slice_get, refl, sym, ap, arith}
use Rattle.std.specs.Prelude.{⊤}
use Rattle.fst_types.specs.Tree.{Tree}
use Rattle.fst_terms.specs.CoreTree.{CoreTree, local, global, int, bool, char, unit, pair, make, lambda, apply, let_in, split, if_else, case_of, operate, negate, new, send, receive, close, wait, select, match_with, fork, seq, CoreList, no_terms, term, CoreArms, no_arms, arm}
use Rattle.fst_terms.specs.declared.binder.Binder.{Binder}
use Rattle.fst_context.specs.Scope.{Variable, is_once}
use Rattle.fst_context.specs.Vars.{Vars, no_vars, under, single, IsSplit}
use Rattle.fst_derivations.specs.Deriv.{Deriv, Derivs}
use Rattle.fst_derivations.specs.Parts.{enter_all, under_all}
use Rattle.fst_derivations.specs.Rules.{Surroundings, Mode, Binding, Row, Fields, Arms, FurtherArms}
use Rattle.fst_machine.specs.Free.{free, free_in, free_below, is, outside, outside_all}

-- of these variables the set has just the linear ones that p has
abbrev pub IsSetOf : List Variable → Vars → (ℕ → Bool) → Type 0
IsSetOf g u p = (k : ℕ) (v : Variable) → slice_get g k ≡ Some v → u k ≡ (p k && is_once v.uses)

-- each arm has just these linear variables from outside
abbrev pub AreSetsOf : List Variable → Vars → CoreArms → Type 0
AreSetsOf g u no_arms = ⊤
AreSetsOf g u (arm l xs e bs) = IsSetOf g u (outside_all xs (free e)) × AreSetsOf g u bs

or_and : (p q b : Bool) → ((p && b) || (q && b)) ≡ ((p || q) && b)
or_and true q true = refl
or_and true true false = refl
or_and true false false = refl
or_and false q b = refl

or_itself : (b : Bool) → (b || b) ≡ b
or_itself true = refl
or_itself false = refl

no_set : (g : List Variable) (u : Vars) → u ≡ no_vars → IsSetOf g u (λ k. false)
no_set g u e k v x = ap (λ w. w k) e

-- a split set has the variables of both parts
pub split_set : (g : List Variable) (u l r : Vars) (p q : ℕ → Bool) → IsSplit u l r → IsSetOf g l p → IsSetOf g r q → IsSetOf g u
    (λ k. p k || q k)
split_set g u l r p q s f h k v x = ap (λ w. w k) s.together ∙ (λ i. f k v x i || h k v x i) ∙ or_and (p k) (q k) (is_once v.uses)

-- so have parts with the same set
pub same_set : (g : List Variable) (u : Vars) (p q : ℕ → Bool) → IsSetOf g u p → IsSetOf g u q → IsSetOf g u (λ k. p k || q k)
same_set g u p q f h k v x = sym (or_itself (u k)) ∙ (λ i. f k v x i || h k v x i) ∙ or_and (p k) (q k) (is_once v.uses)

-- a set inside a binder
outside_set : (g : List Variable) (w : Variable) (b : Bool) (u : Vars) (p : ℕ → Bool) → IsSetOf (w ∷ g) (under b u) p →
    IsSetOf g u (outside p)
outside_set g w b u p h k v x = h (suc k) v x

-- the set of one variable is that of the term that is this variable
single_set : (g : List Variable) (j k : ℕ) (w v : Variable) → slice_get g j ≡ Some w → slice_get g k ≡ Some v →
    single (is_once w.uses) j k ≡ (is j k && is_once v.uses)
single_set [] j k w v x y = absurd (cc x)
single_set (a ∷ g) zero zero w v x y =
    let left : a ≡ w = cc in
    let right : a ≡ v = cc in
    ap (λ z. is_once z.uses) (sym left ∙ right)
single_set (a ∷ g) zero (suc k) w v x y = refl
single_set (a ∷ g) (suc j) zero w v x y = refl
single_set (a ∷ g) (suc j) (suc k) w v x y = single_set g j k w v x y

-- the set inside the variables of an arm
pub inside_set : (vs : List Variable) (xs : List Binder) (g : List Variable) (u : Vars) (p : ℕ → Bool) → length xs ≡ length vs →
    IsSetOf (enter_all vs g) (under_all vs u) p → IsSetOf g u (outside_all xs p)
inside_set [] [] g u p n h = h
inside_set [] (x ∷ xs) g u p n h = absurd (omega (arith, n))
inside_set (v ∷ vs) [] g u p n h = absurd (omega (arith, n))
inside_set (v ∷ vs) (x ∷ xs) g u p n h = λ k w e. inside_set vs xs (v ∷ g) (under (is_once v.uses) u) p (omega (arith, n)) h
    (suc k) w e

-- what arms have free below what they bind, where all have the same set
below_set : (g : List Variable) (u : Vars) (p : ℕ → Bool) (bs : CoreArms) → IsSetOf g u p → AreSetsOf g u bs → IsSetOf g u
    (λ k. p k || free_below bs k)
below_set g u p no_arms f h = λ k v x. sym (or_itself (u k)) ∙ (λ i. f k v x i || f k v x i) ∙ and_none (p k) (is_once v.uses)
  where
    and_none : (b c : Bool) → ((b && c) || (b && c)) ≡ ((b || false) && c)
    and_none true c = or_itself c
    and_none false c = refl
below_set g u p (arm l xs e bs) f h = same_set g u p (free_below (arm l xs e bs)) f
    (below_set g u (outside_all xs (free e)) bs h.0 h.1)

module _ (m : Surroundings) (S : Mode) where
  mutual
    -- the set of a row has the linear variables that its term has free
    pub set_is_free : (e : CoreTree) (g : List Variable) (u : Vars) (c : Deriv) → Row m S e g u c → IsSetOf g u (free e)
    set_is_free (local at j) g u c (w, x, s, e) = λ k v y. ap (λ z. z k) s ∙ single_set g j k w v x y
    set_is_free (global at k ks) g u c (f, t, ts, x, y, z, i, s, e) = no_set g u s
    set_is_free (int at n) g u c (s, e) = no_set g u s
    set_is_free (bool at b) g u c (s, e) = no_set g u s
    set_is_free (char at n) g u c (s, e) = no_set g u s
    set_is_free (unit at) g u c (s, e) = no_set g u s
    set_is_free (pair at a b) g u c (d, h, x, e) =
        split_set g u x.left x.right (free a) (free b) x.split (set_is_free a g x.left x.first.core x.first.rule)
        (set_is_free b g x.right x.second.core x.second.rule)
    set_is_free (make at n k es) g u c (o, ts, ds, p, q, x, e) = fields_set es ts g u ds x
    set_is_free (lambda at uses k z a) g u c (t, n, d, p, w, b, o, x, e) =
        outside_set g (record { type = t; uses = n }) (is_once n) u (free a)
        (set_is_free a (record { type = t; uses = n } ∷ g) (under (is_once n) u) x.core x.rule)
    set_is_free (apply at a b) g u c (d, h, uses, s, t, x, p, e) =
        split_set g u x.left x.right (free a) (free b) x.split (set_is_free a g x.left x.first.core x.first.rule)
        (set_is_free b g x.right x.second.core x.second.rule)
    set_is_free (let_in at z a b) g u c (d, h, n, x, w, e) =
        split_set g u x.left x.right (free a) (outside (free b)) x.split (set_is_free a g x.left x.first.core x.first.rule)
        (outside_set g _ (is_once n) x.right (free b) (set_is_free b _ (under (is_once n) x.right) x.second.core x.second.rule))
    set_is_free (split at y z a b) g u c (d, h, s, t, n, o, x, p, i, j, e) =
        split_set g u x.left x.right (free a) (outside (outside (free b))) x.split
        (set_is_free a g x.left x.first.core x.first.rule)
        (outside_set g (record { type = s; uses = n }) (is_once n) x.right (outside (free b))
        (outside_set (record { type = s; uses = n } ∷ g) (record { type = t; uses = o }) (is_once o) (under (is_once n) x.right)
        (free b) (set_is_free b _ (under (is_once o) (under (is_once n) x.right)) x.second.core x.second.rule)))
    set_is_free (if_else at a b o) g u c (d, h, l, x, e) =
        split_set g u x.left x.right (free a) (λ k. free b k || free o k) x.split
        (set_is_free a g x.left x.first.core x.first.rule)
        (same_set g x.right (free b) (free o) (set_is_free b g x.right x.second.0.core x.second.0.rule)
        (set_is_free o g x.right x.second.1.core x.second.1.rule))
    set_is_free (case_of at a bs) g u c (d, n, f, t, ds, x, p, q, l, e) =
        split_set g u x.left x.right (free a) (free_below bs) x.split (set_is_free a g x.left x.first.core x.first.rule)
        (arms_set _ bs g x.right t ds x.second)
    set_is_free (operate at o a b) g u c (d, h, s, t, i, x, e) =
        split_set g u x.left x.right (free a) (free b) x.split (set_is_free a g x.left x.first.core x.first.rule)
        (set_is_free b g x.right x.second.core x.second.rule)
    set_is_free (negate at a) g u c (d, x, e) = set_is_free a g u x.core x.rule
    set_is_free (new at k) g u c (s, p, i, q, e) = no_set g u q
    set_is_free (send at a b) g u c (d, h, k, t, x, p, q, e) =
        split_set g u x.left x.right (free a) (free b) x.split (set_is_free a g x.left x.first.core x.first.rule)
        (set_is_free b g x.right x.second.core x.second.rule)
    set_is_free (receive at a) g u c (d, k, t, x, p, e) = set_is_free a g u x.core x.rule
    set_is_free (close at a) g u c (d, t, x, p, e) = set_is_free a g u x.core x.rule
    set_is_free (wait at a) g u c (d, t, x, p, e) = set_is_free a g u x.core x.rule
    set_is_free (select at l a) g u c (d, t, x, p, e) = set_is_free a g u x.core x.rule
    set_is_free (match_with at a bs) g u c (d, ls, t, ds, x, i, l, e) =
        split_set g u x.left x.right (free a) (free_below bs) x.split (set_is_free a g x.left x.first.core x.first.rule)
        (arms_set _ bs g x.right t ds x.second)
    set_is_free (fork at a) g u c (d, x, w, e) = set_is_free a g u x.core x.rule
    set_is_free (seq at a b) g u c (d, h, x, w, e) =
        split_set g u x.left x.right (free a) (free b) x.split (set_is_free a g x.left x.first.core x.first.rule)
        (set_is_free b g x.right x.second.core x.second.rule)

    -- so has that of a constructor's arguments
    pub fields_set : (es : CoreList) (ts : List Tree) (g : List Variable) (u : Vars) (ds : Derivs) → Fields m S es ts g u ds →
        IsSetOf g u (free_in es)
    fields_set no_terms [] g u ds (s, e) = no_set g u s
    fields_set no_terms (t ∷ ts) g u ds x = absurd x
    fields_set (term e es) [] g u ds x = absurd x
    fields_set (term e es) (t ∷ ts) g u ds (d, more, x, p) =
        split_set g u x.left x.right (free e) (free_in es) x.split (set_is_free e g x.left x.first.core x.first.rule)
        (fields_set es ts g x.right more x.second)

    -- and that of arms, below what these bind
    pub arms_set : (B : Binding) (bs : CoreArms) (g : List Variable) (u : Vars) (t : Tree) (ds : Derivs) →
        Arms m S B bs g u t ds → IsSetOf g u (free_below bs)
    arms_set B no_arms g u t ds x = absurd x
    arms_set B (arm l xs e bs) g u t ds (ts, vs, d, more, i, j, r, n, x, p, y, q) =
        below_set g u (outside_all xs (free e)) bs (inside_set vs xs g u (free e) n
        (set_is_free e (enter_all vs g) (under_all vs u) x.core x.rule)) (further_sets B bs g u t more y)

    further_sets : (B : Binding) (bs : CoreArms) (g : List Variable) (u : Vars) (t : Tree) (ds : Derivs) →
        FurtherArms m S B bs g u t ds → AreSetsOf g u bs
    further_sets B no_arms g u t ds x = tt
    further_sets B (arm l xs e bs) g u t ds (ts, vs, d, more, i, j, r, n, x, y, q) = (
      inside_set vs xs g u (free e) n (set_is_free e (enter_all vs g) (under_all vs u) x.core x.rule),
      further_sets B bs g u t more y,
    )

  -- each arm has the set of all
  pub arms_sets : (B : Binding) (bs : CoreArms) (g : List Variable) (u : Vars) (t : Tree) (ds : Derivs) → Arms m S B bs g u t ds →
      AreSetsOf g u bs
  arms_sets B no_arms g u t ds x = absurd x
  arms_sets B (arm l xs e bs) g u t ds (ts, vs, d, more, i, j, r, n, x, p, y, q) = (
    inside_set vs xs g u (free e) n (set_is_free e (enter_all vs g) (under_all vs u) x.core x.rule),
    further_sets B bs g u t more y,
  )
