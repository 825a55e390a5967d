-- A term has at most one plain type, and a determined set of linear variables.
use Rattle.std.proofs.Common.{◌≡◌, ◌∙◌, List, [], ◌∷◌, slice_get, refl, sym, ap, subst}
use Rattle.std.proofs.lemmas.Option.{same_Some}
use Rattle.fst_types.specs.Tree as type
use Rattle.fst_types.specs.Tree.{Tree, plain, arrow, named}
use Rattle.fst_types.specs.Instance.{instantiated}
use Rattle.fst_types.specs.declared.base.Base.TheVariants.{Int, Bool as Truth, Char, Unit as Nothing}
use Rattle.fst_types.specs.declared.kind.Kind.{Kind}
use Rattle.fst_types.specs.declared.label.Label.TheVariants.{Send, Receive, Select}
use Rattle.fst_lts.specs.Step.{step}
use Rattle.fst_lts.specs.Dual.{dual}
use Rattle.fst_terms.specs.CoreTree.{CoreTree, local, global, int, bool, char, unit, pair, make, lambda, apply, let_in, split, if_else, case_of, operate, negate, new, send, receive, close, wait, select, match_with, fork, seq, CoreList, no_terms, term, CoreArms, no_arms, arm}
use Rattle.fst_terms.specs.declared.term.Op.{Op}
use Rattle.fst_terms.specs.declared.term.Op.TheVariants.{Add, Subtract, Multiply, Equal, Unequal, Less, AtMost, Greater, AtLeast, And, Or}
use Rattle.fst_context.specs.Scope.{Variable, is_once}
use Rattle.fst_context.specs.Vars.{Vars, under, outside, single, union, Both}
use Rattle.fst_derivations.specs.Deriv.{Deriv, row, type_of, Derivs, none}
use Rattle.fst_derivations.specs.Parts.{enter_all, under_all}
use Rattle.fst_derivations.specs.Rules.{Surroundings, Bare, Compared, comparing, Over, At, Operates, Binding, fields, rest, Fields, Arms, PlainRow}
use Rattle.fst_derivations.proofs.Parts.{one_use, same_at, same_variables, one_step, outside_all, one_bound}

-- two judgements of a part agree on the type and on the variables
abbrev Alike : (P Q : Vars → Deriv → Type 0) → Type 0
Alike P Q = (u v : Vars) (c d : Deriv) → P u c → Q v d → (type_of c ≡ type_of d) × (u ≡ v)

over : (vars : List Kind) (P Q : Vars → Deriv → Type 0) → Alike P Q → Alike (Over vars Bare P) (Over vars Bare Q)
over vars P Q f u v c d x y =
    let r = f u v x.core y.core x.rule y.rule in
    (ap type_of x.stands ∙ r.0 ∙ sym (ap type_of y.stands), r.1)

compared : (vars : List Kind) (E : Tree → Tree → Type 0) (t s : Tree) (P Q : Vars → Deriv → Type 0) → Alike P Q →
    (u v : Vars) (c d : Deriv) → At vars t (Compared E) P u c → At vars s (Compared E) Q v d → u ≡ v
compared vars E t s P Q f u v c d x y = (f u v x.core y.core x.rule y.rule).1

both : (P Q R S : Vars → Type 0) → ((u v : Vars) → P u → R v → u ≡ v) → ((u v : Vars) → Q u → S v → u ≡ v) →
    (u v : Vars) → Both P Q u → Both R S v → u ≡ v
both P Q R S f g u v x y =
    let a = f x.left y.left x.first y.first in
    let b = g x.right y.right x.second y.second in
    x.split.together ∙ (λ i. union (a i) (b i)) ∙ sym y.split.together

-- the types of rows
typed : (t s : Tree) (a b : Derivs) (c d : Deriv) → c ≡ row t a → d ≡ row s b → t ≡ s → type_of c ≡ type_of d
typed t s a b c d e h p = ap type_of e ∙ p ∙ sym (ap type_of h)

-- a sign gives one type
results : (o : Op) (s t s' t' : Tree) → Operates o s t → Operates o s' t' → t ≡ t'
results Add s t s' t' x y = x.1 ∙ sym y.1
results Subtract s t s' t' x y = x.1 ∙ sym y.1
results Multiply s t s' t' x y = x.1 ∙ sym y.1
results Equal s t s' t' x y = x.1 ∙ sym y.1
results Unequal s t s' t' x y = x.1 ∙ sym y.1
results Less s t s' t' x y = x.1 ∙ sym y.1
results AtMost s t s' t' x y = x.1 ∙ sym y.1
results Greater s t s' t' x y = x.1 ∙ sym y.1
results AtLeast s t s' t' x y = x.1 ∙ sym y.1
results And s t s' t' x y = x.1 ∙ sym y.1
results Or s t s' t' x y = x.1 ∙ sym y.1

module _ (m : Surroundings) (E : Tree → Tree → Type 0) where
  abbrev Part : CoreTree → List Variable → Vars → Deriv → Type 0
  Part e g = Over m.vars Bare (PlainRow m E e g)

  mutual
    pub unique : (e : CoreTree) (g : List Variable) (u v : Vars) (c d : Deriv) → PlainRow m E e g u c → PlainRow m E e g v d →
        (type_of c ≡ type_of d) × (u ≡ v)
    unique (local at k) g u v c d (x, h, p, e) (y, k', q, f) =
        let same : x ≡ y = same_Some x y (sym h ∙ k') in
        (typed x.type y.type none none c d e f (ap (λ z. z.type) same), p ∙ ap (λ z. single (is_once z.uses) k) same ∙ sym q)
    unique (global at k ks) g u v c d (f, t, ts, a, b, x, i, p, e) (f', t', ts', a', b', x', i', q, h) =
        let globals : f ≡ f' = same_Some f f' (sym a ∙ a') in
        let types : t ≡ t' = same_Some t t' (sym b ∙ ap (λ z. slice_get m.types z.signature) globals ∙ b') in
        let args : ts ≡ ts' = same_at m.types ks ts ts' x x' in
        (typed (instantiated ts t) (instantiated ts' t') none none c d e h (λ i. instantiated (args i) (types i)), p ∙ sym q)
    unique (int at n) g u v c d (p, e) (q, h) = (typed (plain Int) (plain Int) none none c d e h refl, p ∙ sym q)
    unique (bool at b) g u v c d (p, e) (q, h) = (typed (plain Truth) (plain Truth) none none c d e h refl, p ∙ sym q)
    unique (char at n) g u v c d (p, e) (q, h) = (typed (plain Char) (plain Char) none none c d e h refl, p ∙ sym q)
    unique (unit at) g u v c d (p, e) (q, h) = (typed (plain Nothing) (plain Nothing) none none c d e h refl, p ∙ sym q)
    unique (pair at a b) g u v c d (pa, pb, x, e) (qa, qb, y, h) =
        let fa = over m.vars _ _ (unique a g) in
        let fb = over m.vars _ _ (unique b g) in
        let ta = (fa x.left y.left pa qa x.first y.first).0 in
        let tb = (fb x.right y.right pb qb x.second y.second).0 in (
          typed _ _ _ _ c d e h (λ i. type.pair (ta i) (tb i)),
          both _ _ _ _ (λ n o p q. (fa n o pa qa p q).1) (λ n o p q. (fb n o pb qb p q).1) u v x y,
        )
    unique (make at n k es) g u v c d (o, ts, ds, a, b, x, e) (o', ts', ds', a', b', y, h) =
        (typed (named n) (named n) ds ds' c d e h refl, unique_fields es ts ts' g u v ds ds' x y)
    unique (lambda at uses k x a) g u v c d (t, n, pa, p, w, z0, o, r, e) (t', n', qa, p', w', z1, o', s, h) =
        let types : t ≡ t' = same_Some t t' (sym p ∙ p') in
        let use_of : n ≡ n' = one_use m.vars t t' n n' types w w' in
        let r' = subst (λ z. Part a (record { type = z; uses = n } ∷ g) (under (is_once n) u) pa) types r in
        let r'' = subst (λ z. Part a (record { type = t'; uses = z } ∷ g) (under (is_once z) u) pa) use_of r' in
        let z = over m.vars _ _ (unique a (record { type = t'; uses = n' } ∷ g)) _ _ pa qa r'' s in
        (typed _ _ _ _ c d e h (λ i. arrow uses (types i) (z.0 i)), ap outside z.1)
    unique (apply at a b) g u v c d (pa, pb, w, from, to, x, p, e) (qa, qb, w', from', to', y, q, h) =
        let fa = over m.vars _ _ (unique a g) in
        let ta = (fa x.left y.left pa qa x.first y.first).0 in
        let arrows : arrow w from to ≡ arrow w' from' to' = sym p ∙ ta ∙ q in
        let same : to ≡ to' = cc in (
          typed _ _ _ _ c d e h same,
          both _ _ _ _ (λ n o p q. (fa n o pa qa p q).1)
              (λ n o p q. compared m.vars E from from' _ _ (unique b g) n o pb qb p q) u v x y,
        )
    unique (let_in at z a b) g u v c d (pa, pb, n, x, w, e) (qa, qb, n', y, w', h) =
        let fa = over m.vars _ _ (unique a g) in
        let ta = (fa x.left y.left pa qa x.first y.first).0 in
        let use_of : n ≡ n' = one_use m.vars (type_of pa) (type_of qa) n n' ta w w' in
        let fb = λ (r o : Vars) (p : Part b (record { type = type_of pa; uses = n } ∷ g) (under (is_once n) r) pb)
        (q : Part b (record { type = type_of qa; uses = n' } ∷ g) (under (is_once n') o) qb).
        let p' = subst (λ t. Part b (record { type = t; uses = n } ∷ g) (under (is_once n) r) pb) ta p in
        let p'' = subst (λ t. Part b (record { type = type_of qa; uses = t } ∷ g) (under (is_once t) r) pb) use_of p' in
        over m.vars _ _ (unique b (record { type = type_of qa; uses = n' } ∷ g)) _ _ pb qb p'' q in (
          typed _ _ _ _ c d e h (fb x.right y.right x.second y.second).0,
          both _ _ _ _ (λ r o p q. (fa r o pa qa p q).1) (λ r o p q. ap outside (fb r o p q).1) u v x y,
        )
    unique (split at z w a b) g u v c d (pa, pb, r, s, n, o, x, p, j, k, e) (qa, qb, r', s', n', o', y, q, j', k', h) =
        let fa = over m.vars _ _ (unique a g) in
        let ta = (fa x.left y.left pa qa x.first y.first).0 in
        let pairs : type.pair r s ≡ type.pair r' s' = sym p ∙ ta ∙ q in
        let er : r ≡ r' = cc in
        let es : s ≡ s' = cc in
        let en : n ≡ n' = one_use m.vars r r' n n' er j j' in
        let eo : o ≡ o' = one_use m.vars s s' o o' es k k' in
        let fb = λ (i l : Vars) (p : Part b (record { type = s; uses = o } ∷ record { type = r; uses = n } ∷ g)
        (under (is_once o) (under (is_once n) i)) pb)
        (q : Part b (record { type = s'; uses = o' } ∷ record { type = r'; uses = n' } ∷ g)
        (under (is_once o') (under (is_once n') l)) qb).
        let p1 = subst (λ t. Part b (record { type = t; uses = o } ∷ record { type = r; uses = n } ∷ g)
        (under (is_once o) (under (is_once n) i)) pb) es p in
        let p2 = subst (λ t. Part b (record { type = s'; uses = o } ∷ record { type = t; uses = n } ∷ g)
        (under (is_once o) (under (is_once n) i)) pb) er p1 in
        let p3 = subst (λ t. Part b (record { type = s'; uses = t } ∷ record { type = r'; uses = n } ∷ g)
        (under (is_once t) (under (is_once n) i)) pb) eo p2 in
        let p4 = subst (λ t. Part b (record { type = s'; uses = o' } ∷ record { type = r'; uses = t } ∷ g)
        (under (is_once o') (under (is_once t) i)) pb) en p3 in
        over m.vars _ _ (unique b (record { type = s'; uses = o' } ∷ record { type = r'; uses = n' } ∷ g)) _ _ pb qb p4 q in (
          typed _ _ _ _ c d e h (fb x.right y.right x.second y.second).0,
          both _ _ _ _ (λ i l p q. (fa i l pa qa p q).1) (λ i l p q. ap outside (ap outside (fb i l p q).1)) u v x y,
        )
    unique (if_else at a b o) g u v c d (pa, pb, pc, x, e) (qa, qb, qc, y, h) =
        let fb = over m.vars _ _ (unique b g) in (
          typed _ _ _ _ c d e h (fb x.right y.right pb qb x.second.0 y.second.0).0,
          both _ _ _ _ (λ n o p q. compared m.vars E (plain Truth) (plain Truth) _ _ (unique a g) n o pa qa p q)
              (λ n o p q. (fb n o pb qb p.0 q.0).1) u v x y,
        )
    unique (case_of at a bs) g u v c d (pa, n, f, t, ds, x, p, k, l, e) (qa, n', f', t', ds', y, p', k', l', h) =
        let fa = over m.vars _ _ (unique a g) in
        let ta = (fa x.left y.left pa qa x.first y.first).0 in
        let names : named n ≡ named n' = sym p ∙ ta ∙ p' in
        let en : n ≡ n' = cc in
        let ef : f ≡ f' = same_Some f f' (sym k ∙ ap (slice_get m.families) en ∙ k') in
        let binding = ap (λ z. fields z.makers.items) ef in
        let arms = λ (r o : Vars) (p : Arms m (comparing E) (fields f.makers.items) bs g r t ds)
        (q : Arms m (comparing E) (fields f'.makers.items) bs g o t' ds').
        unique_arms (fields f.makers.items) (fields f'.makers.items) binding bs g r o t t' ds ds' p q in (
          typed _ _ _ _ c d e h (arms x.right y.right x.second y.second).0,
          both _ _ _ _ (λ r o p q. (fa r o pa qa p q).1) (λ r o p q. (arms r o p q).1) u v x y,
        )
    unique (operate at o a b) g u v c d (pa, pb, s, t, i, x, e) (qa, qb, s', t', j, y, h) = (
      typed _ _ _ _ c d e h (results o s t s' t' i j),
      both _ _ _ _ (λ n l p q. compared m.vars E s s' _ _ (unique a g) n l pa qa p q)
          (λ n l p q. compared m.vars E s s' _ _ (unique b g) n l pb qb p q) u v x y,
    )
    unique (negate at a) g u v c d (pa, x, e) (qa, y, h) = (
      typed (plain Truth) (plain Truth) _ _ c d e h refl,
      compared m.vars E (plain Truth) (plain Truth) _ _ (unique a g) u v pa qa x y,
    )
    unique (new at k) g u v c d (s, p, i, x, e) (s', q, j, y, h) =
        let same : s ≡ s' = same_Some s s' (sym p ∙ q) in
        (typed _ _ none none c d e h (λ i. type.pair (same i) (dual (same i))), x ∙ sym y)
    unique (send at a b) g u v c d (pa, pb, k, t, x, p, w, e) (qa, qb, k', t', y, q, w', h) =
        let fa = over m.vars _ _ (unique a g) in
        let fb = over m.vars _ _ (unique b g) in
        let ta = (fa x.left y.left pa qa x.first y.first).0 in
        let tb = (fb x.right y.right pb qb x.second y.second).0 in
        let bases : plain k ≡ plain k' = sym p ∙ ta ∙ q in
        let ek : k ≡ k' = cc in
        let same : t ≡ t' = same_Some t t' (sym w ∙ (λ i. step (tb i) (Send (ek i))) ∙ w') in (
          typed _ _ _ _ c d e h same,
          both _ _ _ _ (λ n o p q. (fa n o pa qa p q).1) (λ n o p q. (fb n o pb qb p q).1) u v x y,
        )
    unique (receive at a) g u v c d (pa, k, t, x, w, e) (qa, k', t', y, w', h) =
        let fa = over m.vars _ _ (unique a g) _ _ pa qa x y in
        let ek : k ≡ k' = one_step (type_of pa) (type_of qa) k k' t t' fa.0 w w' in
        let same : t ≡ t' = same_Some t t' (sym w ∙ (λ i. step (fa.0 i) (Receive (ek i))) ∙ w') in
        (typed _ _ _ _ c d e h (λ i. type.pair (plain (ek i)) (same i)), fa.1)
    unique (close at a) g u v c d (pa, t, x, w, e) (qa, t', y, w', h) =
        let fa = over m.vars _ _ (unique a g) _ _ pa qa x y in
        (typed (plain Nothing) (plain Nothing) _ _ c d e h refl, fa.1)
    unique (wait at a) g u v c d (pa, t, x, w, e) (qa, t', y, w', h) =
        let fa = over m.vars _ _ (unique a g) _ _ pa qa x y in
        (typed (plain Nothing) (plain Nothing) _ _ c d e h refl, fa.1)
    unique (select at l a) g u v c d (pa, t, x, w, e) (qa, t', y, w', h) =
        let fa = over m.vars _ _ (unique a g) _ _ pa qa x y in
        let same : t ≡ t' = same_Some t t' (sym w ∙ ap (λ z. step z (Select l)) fa.0 ∙ w') in
        (typed _ _ _ _ c d e h same, fa.1)
    unique (match_with at a bs) g u v c d (pa, ls, t, ds, x, i, l, e) (qa, ls', t', ds', y, i', l', h) =
        let fa = over m.vars _ _ (unique a g) in
        let ta = (fa x.left y.left pa qa x.first y.first).0 in
        let arms = λ (r o : Vars) (p : Arms m (comparing E) (rest (type_of pa)) bs g r t ds)
        (q : Arms m (comparing E) (rest (type_of qa)) bs g o t' ds').
        unique_arms (rest (type_of pa)) (rest (type_of qa)) (ap rest ta) bs g r o t t' ds ds' p q in (
          typed _ _ _ _ c d e h (arms x.right y.right x.second y.second).0,
          both _ _ _ _ (λ r o p q. (fa r o pa qa p q).1) (λ r o p q. (arms r o p q).1) u v x y,
        )
    unique (fork at a) g u v c d (pa, x, w, e) (qa, y, w', h) =
        let fa = over m.vars _ _ (unique a g) _ _ pa qa x y in
        (typed (plain Nothing) (plain Nothing) _ _ c d e h refl, fa.1)
    unique (seq at a b) g u v c d (pa, pb, x, l, e) (qa, qb, y, r, h) =
        let fa = over m.vars _ _ (unique a g) in
        let fb = over m.vars _ _ (unique b g) in (
          typed _ _ _ _ c d e h (fb x.right y.right pb qb x.second y.second).0,
          both _ _ _ _ (λ n o p q. (fa n o pa qa p q).1) (λ n o p q. (fb n o pb qb p q).1) u v x y,
        )

    unique_fields : (es : CoreList) (ts ts' : List Tree) (g : List Variable) (u v : Vars) (ds ds' : Derivs) →
        Fields m (comparing E) es ts g u ds → Fields m (comparing E) es ts' g v ds' → u ≡ v
    unique_fields no_terms [] [] g u v ds ds' x y = x.0 ∙ sym y.0
    unique_fields no_terms [] (t ∷ ts) g u v ds ds' x y = absurd y
    unique_fields no_terms (t ∷ ts) ts' g u v ds ds' x y = absurd x
    unique_fields (term e es) [] ts' g u v ds ds' x y = absurd x
    unique_fields (term e es) (t ∷ ts) [] g u v ds ds' x y = absurd y
    unique_fields (term e es) (t ∷ ts) (t' ∷ ts') g u v ds ds' (c, rs, x, p) (d, rs', y, q) =
        both _ _ _ _ (λ n o p q. compared m.vars E t t' _ _ (unique e g) n o c d p q)
        (λ n o p q. unique_fields es ts ts' g n o rs rs' p q) u v x y

    unique_arms : (B B' : Binding) → B ≡ B' → (bs : CoreArms) (g : List Variable) (u v : Vars) (t t' : Tree) (ds ds' : Derivs) →
        Arms m (comparing E) B bs g u t ds → Arms m (comparing E) B' bs g v t' ds' → (t ≡ t') × (u ≡ v)
    unique_arms B B' f no_arms g u v t t' ds ds' x y = absurd x
    unique_arms B B' f (arm l xs e bs) g u v t t' ds ds' (ts, vs, c, rs, b, w, z, n, x, p, more, q)
        (ts', vs', d, rs', b', w', z', n', y, p', more', q') =
        let types : ts ≡ ts' = one_bound m B B' f l ts ts' b b' in
        let variables : vs ≡ vs' = same_variables m.vars ts ts' vs vs' types w w' in
        let x' = subst (λ z. Part e (enter_all z g) (under_all z u) c) variables x in
        let r = over m.vars _ _ (unique e (enter_all vs' g)) _ _ c d x' y in
        (sym p ∙ r.0 ∙ p', outside_all vs' u v r.1)
