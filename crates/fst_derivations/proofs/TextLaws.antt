-- The type of each row of a plain derivation has a text, where the types that stand in the module and those of the variables do.
use Rattle.std.proofs.Common.{◌≡◌, ℕ, List, ◌∷◌, Option, Some, None, length, slice_get, refl, sym, ap, subst}
use Rattle.fst_types.specs.Tree as type
use Rattle.fst_types.specs.Tree.{Tree, plain}
use Rattle.fst_types.specs.declared.base.Base.TheVariants.{Int, Bool as Truth, Char, Unit as Nothing}
use Rattle.fst_types.specs.declared.family.Family.{Family}
use Rattle.fst_types.specs.declared.family.Maker.{Maker}
use Rattle.fst_types.specs.declared.kind.Kind.{Kind}
use Rattle.fst_types.specs.declared.label.Label.TheVariants.{Send, Receive, Select}
use Rattle.fst_lts.specs.Dual.{dual}
use Rattle.fst_terms.specs.CoreTree.{CoreTree, local, global, int, bool, char, unit, pair, make, lambda, apply, let_in, split, if_else, case_of, operate, negate, new, send, receive, close, wait, select, match_with, fork, seq, CoreArms, no_arms, arm}
use Rattle.fst_terms.specs.InRange.{maker_of}
use Rattle.fst_terms.specs.declared.term.Op.{Op}
use Rattle.fst_terms.specs.declared.term.Op.TheVariants.{Add, Subtract, Multiply, Equal, Unequal, Less, AtMost, Greater, AtLeast, And, Or}
use Rattle.fst_context.specs.Scope.{Variable}
use Rattle.fst_context.specs.Vars.{Vars}
use Rattle.fst_derivations.specs.Deriv.{Deriv, row, type_of, Derivs}
use Rattle.fst_derivations.specs.Parts.{enter_all}
use Rattle.fst_derivations.specs.Rules.{Surroundings, Bare, comparing, Over, Operates, Binding, fields, rest, Arms, PlainRow}
use Rattle.fst_derivations.specs.Texts.{HasText, AllHaveText, VariablesHaveText, BindingHasText}
use Rattle.fst_derivations.proofs.TextParts.{all_at, at_texts, instantiated_text, dual_text, step_text, arrow_text, arrow_texts, pair_text, pair_texts, plain_text, named_text, bound_texts, variables_text, entered_text}

-- a part's type has a text where the types of its rows do
over : (vars : List Kind) (n : ℕ) (P : Vars → Deriv → Type 0) → ((u : Vars) (d : Deriv) → P u d → HasText n (type_of d)) →
    (u : Vars) (d : Deriv) → Over vars Bare P u d → HasText n (type_of d)
over vars n P f u d x = subst (HasText n) (sym (ap type_of x.stands)) (f u x.core x.rule)

-- the type of a row
typed : (n : ℕ) (t : Tree) (ds : Derivs) (c : Deriv) → c ≡ row t ds → HasText n t → HasText n (type_of c)
typed n t ds c e h = subst (HasText n) (sym (ap type_of e)) h

-- the result of a sign
results : (n : ℕ) (o : Op) (s t : Tree) → Operates o s t → HasText n t
results n Add s t x = subst (HasText n) (sym x.1) (plain_text n Int)
results n Subtract s t x = subst (HasText n) (sym x.1) (plain_text n Int)
results n Multiply s t x = subst (HasText n) (sym x.1) (plain_text n Int)
results n Equal s t x = subst (HasText n) (sym x.1) (plain_text n Truth)
results n Unequal s t x = subst (HasText n) (sym x.1) (plain_text n Truth)
results n Less s t x = subst (HasText n) (sym x.1) (plain_text n Truth)
results n AtMost s t x = subst (HasText n) (sym x.1) (plain_text n Truth)
results n Greater s t x = subst (HasText n) (sym x.1) (plain_text n Truth)
results n AtLeast s t x = subst (HasText n) (sym x.1) (plain_text n Truth)
results n And s t x = subst (HasText n) (sym x.1) (plain_text n Truth)
results n Or s t x = subst (HasText n) (sym x.1) (plain_text n Truth)

-- a data type with a constructor
made_text : (fs : List Family) (k j : ℕ) (o : Maker) → maker_of (slice_get fs k) j ≡ Some o → HasText (length fs) (type.named k)
made_text fs k j o e = pick (slice_get fs k) refl e
  where
    pick : (f : Option Family) → slice_get fs k ≡ f → maker_of f j ≡ Some o → HasText (length fs) (type.named k)
    pick None i e = absurd (cc e)
    pick (Some f) i e = named_text fs k f i

module _ (m : Surroundings) (E : Tree → Tree → Type 0) (types : AllHaveText (length m.families) m.types) where
  abbrev N : ℕ
  N = length m.families

  mutual
    pub text : (e : CoreTree) (g : List Variable) → VariablesHaveText N g →
        (u : Vars) (c : Deriv) → PlainRow m E e g u c → HasText N (type_of c)
    text (local at k) g h u c (v, i, p, e) = typed N _ _ c e (all_at (λ (x : Variable). HasText N x.type) g k v h i)
    text (global at k ks) g h u c (f, t, ts, a, b, x, i, p, e) =
        typed N _ _ c e (instantiated_text N ts t (at_texts N m.types ks ts types x)
        (all_at (HasText N) m.types f.signature t types b))
    text (int at n) g h u c (p, e) = typed N _ _ c e (plain_text N Int)
    text (bool at b) g h u c (p, e) = typed N _ _ c e (plain_text N Truth)
    text (char at n) g h u c (p, e) = typed N _ _ c e (plain_text N Char)
    text (unit at) g h u c (p, e) = typed N _ _ c e (plain_text N Nothing)
    text (pair at a b) g h u c (d, f, x, e) =
        typed N _ _ c e (pair_text N (type_of d) (type_of f) (over m.vars N _ (text a g h) x.left d x.first)
        (over m.vars N _ (text b g h) x.right f x.second))
    text (make at n k es) g h u c (o, ts, ds, a, b, x, e) = typed N _ _ c e (made_text m.families n k o a)
    text (lambda at uses k x a) g h u c (t, n, d, p, w, z, o, r, e) =
        let from = all_at (HasText N) m.types k t types p in
        typed N _ _ c e (arrow_text N uses t (type_of d) from
        (over m.vars N _ (text a (record { type = t; uses = n } ∷ g) (from, h)) _ d r))
    text (apply at a b) g h u c (d, f, w, s, t, x, p, e) =
        typed N _ _ c e (arrow_texts N w s t (subst (HasText N) p (over m.vars N _ (text a g h) x.left d x.first))).1
    text (let_in at z a b) g h u c (d, f, n, x, w, e) =
        let first = over m.vars N _ (text a g h) x.left d x.first in
        typed N _ _ c e (over m.vars N _ (text b (record { type = type_of d; uses = n } ∷ g) (first, h)) _ f x.second)
    text (split at z w a b) g h u c (d, f, s, t, n, o, x, p, j, k, e) =
        let parts = pair_texts N s t (subst (HasText N) p (over m.vars N _ (text a g h) x.left d x.first)) in
        typed N _ _ c e (over m.vars N _ (text b (record { type = t; uses = o } ∷ record { type = s; uses = n } ∷ g)
        (parts.1, (parts.0, h))) _ f x.second)
    text (if_else at a b o) g h u c (d, k, l, x, e) = typed N _ _ c e (over m.vars N _ (text b g h) x.right k x.second.0)
    text (case_of at a bs) g h u c (d, n, f, t, ds, x, p, k, l, e) =
        typed N _ _ c e (arms_text (fields f.makers.items) tt bs g h x.right t ds x.second)
    text (operate at o a b) g h u c (d, f, s, t, i, x, e) = typed N _ _ c e (results N o s t i)
    text (negate at a) g h u c (d, x, e) = typed N _ _ c e (plain_text N Truth)
    text (new at k) g h u c (s, p, i, x, e) =
        let end = all_at (HasText N) m.types k s types p in
        typed N _ _ c e (pair_text N s (dual s) end (dual_text N s end))
    text (send at a b) g h u c (d, f, k, t, x, p, w, e) =
        typed N _ _ c e (step_text N (type_of f) (Send k) t (over m.vars N _ (text b g h) x.right f x.second) w)
    text (receive at a) g h u c (d, k, t, x, w, e) =
        typed N _ _ c e (pair_text N (plain k) t (plain_text N k)
        (step_text N (type_of d) (Receive k) t (over m.vars N _ (text a g h) u d x) w))
    text (close at a) g h u c (d, t, x, w, e) = typed N _ _ c e (plain_text N Nothing)
    text (wait at a) g h u c (d, t, x, w, e) = typed N _ _ c e (plain_text N Nothing)
    text (select at l a) g h u c (d, t, x, w, e) =
        typed N _ _ c e (step_text N (type_of d) (Select l) t (over m.vars N _ (text a g h) u d x) w)
    text (match_with at a bs) g h u c (d, ls, t, ds, x, i, l, e) =
        typed N _ _ c e (arms_text (rest (type_of d))
        (over m.vars N _ (text a g h) x.left d x.first) bs g h x.right t ds x.second)
    text (fork at a) g h u c (d, x, w, e) = typed N _ _ c e (plain_text N Nothing)
    text (seq at a b) g h u c (d, f, x, l, e) = typed N _ _ c e (over m.vars N _ (text b g h) x.right f x.second)

    arms_text : (B : Binding) → BindingHasText N B → (bs : CoreArms) (g : List Variable) → VariablesHaveText N g →
        (u : Vars) (t : Tree) (ds : Derivs) → Arms m (comparing E) B bs g u t ds → HasText N t
    arms_text B b no_arms g h u t ds x = absurd x
    arms_text B b (arm l xs e bs) g h u t ds (ts, vs, d, more, i, w, z, k, x, p, later, q) =
        let all = entered_text N vs g (variables_text N m.vars ts vs (bound_texts m N B l ts types b i) w) h in
        subst (HasText N) p (over m.vars N _ (text e (enter_all vs g) all) _ d x)
