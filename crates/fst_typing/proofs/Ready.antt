-- What has to hold before the parts of a term are checked.
use Rattle.std.proofs.Common.{ℕ, List, [], ◌∷◌, ◌++◌, sym, ap, subst}
use Rattle.fst_types.specs.Tree.{Tree}
use Rattle.fst_types.specs.declared.kind.Kind.{Kind}
use Rattle.fst_types.specs.declared.kind.Use.{Use}
use Rattle.fst_terms.specs.Around.{around, second, wrap}
use Rattle.fst_terms.specs.CoreTree.{CoreTree, pair, lambda, let_in, split, if_else, negate, send, receive, close, wait, select, fork, seq}
use Rattle.fst_terms.specs.declared.binder.Binder.{Binder}
use Rattle.fst_terms.specs.declared.steps.Step.{Step}
use Rattle.fst_terms.specs.declared.steps.Step.TheVariants.{Operate, Apply}
use Rattle.fst_context.specs.Scope.{Scope, Variable}
use Rattle.fst_derivations.specs.Deriv.{Deriv}
use Rattle.fst_derivations.specs.Parts.{HasUse, AreVariables, enter_all}
use Rattle.fst_derivations.specs.Modules.{Standing, AreStandingFormed, types_in}
use Rattle.fst_premises.specs.Checks.{Check, IsInSize}
use Rattle.fst_typing.specs.Typed.{IsTyped}
use Rattle.fst_premises.specs.Scenes.{IsReady}

-- of types that stand one after the other both parts are well formed
pub standing_parts : (types : List Tree) (vars : List Kind) (ps qs : List Standing) → AreStandingFormed types vars (ps ++ qs) →
    AreStandingFormed types vars ps × AreStandingFormed types vars qs
standing_parts types vars [] qs h = (tt, h)
standing_parts types vars (p ∷ ps) qs h =
    let rest = standing_parts types vars ps qs h.1 in
    ((h.0, rest.0), rest.1)

module _ (c : Check) where
  abbrev V : List Kind
  V = c.surroundings.vars

  -- the first part of two is ready where the whole is, and then the second
  pub pair_ready : (at : ℕ) (a b : CoreTree) (g : List Variable) → IsReady c (pair at a b) g → IsReady c a g × IsReady c b g
  pair_ready at a b g h =
      let parts = standing_parts c.surroundings.types V (types_in a) (types_in b) h.formed in (
        record { range = h.range.0; formed = parts.0; held = h.held },
        record { range = h.range.1; formed = parts.1; held = h.held },
      )

  -- a later part is ready in the scope that the parts before it leave
  pub later_ready : (e f : CoreTree) (d : Deriv) (r s : Scope) → IsTyped c r s e d → IsReady c f r.variables →
      IsReady c f s.variables
  later_ready e f d r s t h = subst (IsReady c f) (sym (ap (λ z. z.variables) t.rest)) h

  -- what is ready inside steps
  pub inner_ready : (e : CoreTree) (xs : List Step) (g : List Variable) → IsReady c (around e xs) g → IsReady c e g
  inner_ready e [] g h = h
  inner_ready e (Operate at o t ∷ xs) g h = inner_ready e xs g
      (pair_ready at (around e xs) t.now g (record { range = h.range; formed = h.formed; held = h.held })).0
  inner_ready e (Apply at t ∷ xs) g h = inner_ready e xs g
      (pair_ready at (around e xs) t.now g (record { range = h.range; formed = h.formed; held = h.held })).0

  -- a step's second part is ready
  pub second_ready : (e : CoreTree) (x : Step) (g : List Variable) → IsReady c (wrap x e) g → IsReady c (second x) g
  second_ready e (Operate at o t) g h = (pair_ready at e t.now g (record { range = h.range; formed = h.formed; held = h.held })).1
  second_ready e (Apply at t) g h = (pair_ready at e t.now g (record { range = h.range; formed = h.formed; held = h.held })).1

  -- what is ready with a variable more is so with a list of one more
  one_under : (e : CoreTree) (g : List Variable) (t : Tree) →
      ((v : Variable) → HasUse V v.type v.uses → IsInSize v.type → IsReady c e (v ∷ g)) →
      IsInSize t → (vs : List Variable) → AreVariables V (t ∷ []) vs → IsReady c e (enter_all vs g)
  one_under e g t f m [] h = absurd h
  one_under e g t f m (v ∷ []) h = f v (subst (λ s. HasUse V s v.uses) (sym h.0) h.1) (subst IsInSize (sym h.0) m)
  one_under e g t f m (v ∷ w ∷ vs) h = absurd h.2

  two_under : (e : CoreTree) (g : List Variable) (s t : Tree) →
      ((v w : Variable) → HasUse V v.type v.uses → IsInSize v.type → HasUse V w.type w.uses → IsInSize w.type →
      IsReady c e (w ∷ v ∷ g)) →
      IsInSize s → IsInSize t → (vs : List Variable) → AreVariables V (s ∷ t ∷ []) vs → IsReady c e (enter_all vs g)
  two_under e g s t f m n [] h = absurd h
  two_under e g s t f m n (v ∷ []) h = absurd h.2
  two_under e g s t f m n (v ∷ w ∷ []) h =
      f v w (subst (λ r. HasUse V r v.uses) (sym h.0) h.1) (subst IsInSize (sym h.0) m)
      (subst (λ r. HasUse V r w.uses) (sym h.2.0) h.2.1) (subst IsInSize (sym h.2.0) n)
  two_under e g s t f m n (v ∷ w ∷ x ∷ vs) h = absurd h.2.2

  -- under the variable of a `let`
  pub let_ready : (at : ℕ) (x : Binder) (a b : CoreTree) (d : Deriv) (r s : Scope) (t : Tree) →
      IsReady c (let_in at x a b) r.variables → IsTyped c r s a d →
      IsInSize t → (vs : List Variable) → AreVariables V (t ∷ []) vs → IsReady c b (enter_all vs s.variables)
  let_ready at x a b d r s t h y =
      let parts = standing_parts c.surroundings.types V (types_in a) (types_in b) h.formed in
      subst (λ g. IsInSize t → (vs : List Variable) → AreVariables V (t ∷ []) vs → IsReady c b (enter_all vs g))
      (sym (ap (λ z. z.variables) y.rest))
      (one_under b r.variables t (λ v u m. record { range = h.range.1; formed = parts.1; held = (u, m, h.held) }))

  -- under the variables of a `let` of a pair
  pub split_ready : (at : ℕ) (x y : Binder) (a b : CoreTree) (d : Deriv) (r s : Scope) (t u : Tree) →
      IsReady c (split at x y a b) r.variables → IsTyped c r s a d →
      IsInSize t → IsInSize u → (vs : List Variable) → AreVariables V (t ∷ u ∷ []) vs → IsReady c b (enter_all vs s.variables)
  split_ready at x y a b d r s t u h z =
      let parts = standing_parts c.surroundings.types V (types_in a) (types_in b) h.formed in
      subst (λ g. IsInSize t → IsInSize u → (vs : List Variable) → AreVariables V (t ∷ u ∷ []) vs → IsReady c b (enter_all vs g))
      (sym (ap (λ o. o.variables) z.rest))
      (two_under b r.variables t u (λ v w m p n q. record { range = h.range.1; formed = parts.1; held = (n, q, (m, p, h.held)) }))

  -- the first parts of these
  pub let_first_ready : (at : ℕ) (x : Binder) (a b : CoreTree) (g : List Variable) → IsReady c (let_in at x a b) g → IsReady c a g
  let_first_ready at x a b g h = record {
    range = h.range.0;
    formed =
        (standing_parts c.surroundings.types V (types_in a) (types_in b) h.formed).0;
    held = h.held;
  }

  pub split_first_ready : (at : ℕ) (x y : Binder) (a b : CoreTree) (g : List Variable) → IsReady c (split at x y a b) g →
      IsReady c a g
  split_first_ready at x y a b g h = record {
    range = h.range.0;
    formed =
        (standing_parts c.surroundings.types V (types_in a) (types_in b) h.formed).0;
    held = h.held;
  }

  -- under the variable of a function
  pub lambda_ready : (at k : ℕ) (uses : Use) (x : Binder) (a : CoreTree) (t : Tree) (g : List Variable) →
      IsReady c (lambda at uses k x a) g →
      IsInSize t → (vs : List Variable) → AreVariables V (t ∷ []) vs → IsReady c a (enter_all vs g)
  lambda_ready at k uses x a t g h = one_under a g t
      (λ v u m. record { range = h.range.1; formed = h.formed.1; held = (u, m, h.held) })

  -- the parts of a term with a condition
  pub if_ready : (at : ℕ) (a b o : CoreTree) (g : List Variable) → IsReady c (if_else at a b o) g → IsReady c a g ×
      IsReady c b g × IsReady c o g
  if_ready at a b o g h =
      let parts = standing_parts c.surroundings.types V (types_in a) (types_in b ++ types_in o) h.formed in
      let more = standing_parts c.surroundings.types V (types_in b) (types_in o) parts.1 in (
        record { range = h.range.0; formed = parts.0; held = h.held },
        record { range = h.range.1; formed = more.0; held = h.held },
        record { range = h.range.2; formed = more.1; held = h.held },
      )

  -- the part of a term of one part
  pub one_ready : (at : ℕ) (a : CoreTree) (g : List Variable) → IsReady c (negate at a) g → IsReady c a g
  one_ready at a g h = record { range = h.range; formed = h.formed; held = h.held }

  -- the parts of terms of two parts, and of one
  pub send_ready : (at : ℕ) (a b : CoreTree) (g : List Variable) → IsReady c (send at a b) g → IsReady c a g × IsReady c b g
  send_ready at a b g h = pair_ready at a b g (record { range = h.range; formed = h.formed; held = h.held })

  pub seq_ready : (at : ℕ) (a b : CoreTree) (g : List Variable) → IsReady c (seq at a b) g → IsReady c a g × IsReady c b g
  seq_ready at a b g h = pair_ready at a b g (record { range = h.range; formed = h.formed; held = h.held })

  pub receive_ready : {at : ℕ} {a : CoreTree} {g : List Variable} → IsReady c (receive at a) g → IsReady c a g
  receive_ready h = record { range = h.range; formed = h.formed; held = h.held }

  pub close_ready : {at : ℕ} {a : CoreTree} {g : List Variable} → IsReady c (close at a) g → IsReady c a g
  close_ready h = record { range = h.range; formed = h.formed; held = h.held }

  pub wait_ready : {at : ℕ} {a : CoreTree} {g : List Variable} → IsReady c (wait at a) g → IsReady c a g
  wait_ready h = record { range = h.range; formed = h.formed; held = h.held }

  pub select_ready : {at : ℕ} {l : List ℕ} {a : CoreTree} {g : List Variable} → IsReady c (select at l a) g → IsReady c a g
  select_ready h = record { range = h.range; formed = h.formed; held = h.held }

  pub fork_ready : {at : ℕ} {a : CoreTree} {g : List Variable} → IsReady c (fork at a) g → IsReady c a g
  fork_ready h = record { range = h.range; formed = h.formed; held = h.held }
