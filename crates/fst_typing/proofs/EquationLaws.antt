-- How an equation is derived, and refused, by what is under its parameters.
use Rattle.std.proofs.Common.{◌≡◌, ◌∙◌, ◌<◌, ◌++◌, ℕ, inl, inr, List, [], ◌∷◌, length, refl, sym, subst, ap, arith}
use Rattle.std.specs.Prelude.{Result, Ok, Err, IfOk}
use Rattle.fst_types.specs.Tree.{Tree}
use Rattle.fst_types.specs.declared.kind.Use.{Use}
use Rattle.fst_types.specs.declared.kind.Use.TheVariants.{Many, Once}
use Rattle.fst_terms.specs.CoreTree.{CoreTree, lambda}
use Rattle.fst_terms.specs.declared.binder.Binder.{Binder}
use Rattle.fst_context.specs.Scope.{Scope, Variable, begun, ended, is_once, left, more, Takes}
use Rattle.fst_context.specs.Vars.{Vars, no_vars, under}
use Rattle.fst_context.proofs.Laws.{takes_as, takes_body, takes_inside}
use Rattle.fst_derivations.specs.Deriv.{Deriv, row, convert, type_of, one}
use Rattle.fst_derivations.specs.Parts.{IsFormed, enter_all}
use Rattle.fst_derivations.specs.Rules.{Surroundings, Mode}
use Rattle.fst_derivations.specs.Modules.{Equation, HasNoParameter, IsParameter}
use Rattle.fst_premises.specs.Scenes.{IsReady}
use Rattle.fst_premises.specs.Scopes.{AreUsed, after_body, inside}
use Rattle.fst_premises.specs.Checks.{Check}
use Rattle.fst_typing.specs.Typed.{IsKnown, IsPlain, IsTyped, checking}
use Rattle.fst_premises.specs.Shown.{IsTooLargeAt, IsUnused, ShowsUnused}
use Rattle.fst_premises.specs.Parameters.{AreEntered, HasParameter, IsEntered}
use Rattle.fst_typing.specs.Equations.{IsEquationTyped, IsParameterTyped, ShowsEquation}
use Rattle.fst_premises.specs.declared.parameters.Parameter.{Parameter}
use Rattle.fst_premises.specs.declared.fault.CheckFault.{CheckFault}
use Rattle.fst_typing.proofs.Formed.{arrow_formed}
use Rattle.fst_typing.proofs.Forms.{at_type}
use Rattle.fst_typing.proofs.Ready.{lambda_ready}
use Rattle.fst_typing.proofs.Under.{inside_variables}

module _ (c : Check) where
  abbrev M : Surroundings
  M = c.surroundings

  abbrev E : Tree → Tree → Type 0
  E = IsKnown c

  abbrev S : Mode
  S = checking c

  -- the term that was found, compared with the type
  pub result_typed : (e : CoreTree) (t : Tree) (r s : Scope) (d h : Deriv) → HasNoParameter M.types e t → IsTyped c r s e d →
      E (type_of d) t → h ≡ convert (type_of d) t d → IsEquationTyped c t r s e h
  result_typed e t r s d h n y k is =
      takes_as (IsPlain c e r.variables d) (λ u. Equation M S e t r.variables u h) r s
      (λ u p. subst (λ w. Equation M S e t r.variables u w) (sym is) (Equation.result n (at_type c e r.variables t d u k p)))
      y

  -- a parameter as the definition of derivations has it
  abbrev is_parameter : (e : CoreTree) (t : Tree) (p : Parameter) (h : HasParameter c e t p) →
      IsParameter M.types h.at p.uses h.number p.binder.now t
  is_parameter e t p h = record { from = p.from.now; to = p.to.now; place = h.place; type = h.type; written = h.written }

  -- what is taken under a parameter
  under_taken : (x : Binder) (from to : Tree) (r z : Scope) (a : CoreTree) (b : Deriv)
      (y : IsParameterTyped c x from to r z a b) →
      Takes (λ u. Equation M S a to (record { type = from; uses = y.uses } ∷ r.variables) (under (is_once y.uses) u) b) r z
  under_taken x from to r z a b y =
      subst (λ o. Takes (λ u. Equation M S a to (record { type = from; uses = y.uses } ∷ r.variables)
      (under (is_once y.uses) u) b) r o) (sym y.left)
      (takes_inside (λ u. Equation M S a to (record { type = from; uses = y.uses } ∷ r.variables) u b) x.name
      (record { type = from; uses = y.uses }) r y.inner y.typed y.used)

  -- under the parameter of a function that is used once
  pub once_derived : (e : CoreTree) (t : Tree) (p : Parameter) (r z : Scope) (b d : Deriv) → HasParameter c e t p →
      p.uses ≡ Once → IsParameterTyped c p.binder.now p.from.now p.to.now r z p.body.now b → d ≡ row t (one b) →
      IsEquationTyped c t r z e d
  once_derived e t p r z b d h i y is =
      subst (λ o. IsEquationTyped c t r z o d) (sym h.term)
      (takes_as (λ u. Equation M S p.body.now p.to.now (record { type = p.from.now; uses = y.uses } ∷ r.variables)
      (under (is_once y.uses) u) b)
      (λ u. Equation M S (lambda h.at p.uses h.number p.binder.now p.body.now) t r.variables u d) r z
      (λ u q. subst (λ o. Equation M S (lambda h.at p.uses h.number p.binder.now p.body.now) t r.variables u o) (sym is)
      (Equation.parameter (is_parameter e t p h) y.has y.small (λ l. absurd (cc (i, l))) q))
      (under_taken p.binder.now p.from.now p.to.now r z p.body.now b y))

  -- and of one that is used at will
  pub many_derived : (e : CoreTree) (t : Tree) (p : Parameter) (r z s : Scope) (b d : Deriv) → HasParameter c e t p →
      IsParameterTyped c p.binder.now p.from.now p.to.now (begun r) z p.body.now b → s ≡ ended z →
      d ≡ row t (one b) → IsEquationTyped c t r s e d
  many_derived e t p r z s b d h y j is =
      let P : Vars → Type 0 = λ u. Equation M S p.body.now p.to.now (record { type = p.from.now; uses = y.uses } ∷ r.variables)
      (under (is_once y.uses) u) b in
      subst (λ o. IsEquationTyped c t r o e d) (sym j)
      (subst (λ o. IsEquationTyped c t r (ended z) o d) (sym h.term)
      (takes_as (λ u. (u ≡ no_vars) × P u) (λ u. Equation M S
      (lambda h.at p.uses h.number p.binder.now p.body.now) t r.variables u d) r (ended z)
      (λ u q. subst (λ o. Equation M S (lambda h.at p.uses h.number p.binder.now p.body.now) t r.variables u o) (sym is)
      (Equation.parameter (is_parameter e t p h) y.has y.small (λ l. q.0) q.1))
      (takes_body P r z (under_taken p.binder.now p.from.now p.to.now (begun r) z p.body.now b y))))

  -- a parameter's type is over its size
  pub large_shown : (e : CoreTree) (t : Tree) (p : Parameter) (s : Scope) (f : CheckFault) → HasParameter c e t p →
      IsTooLargeAt p.binder.now.at p.from.now f → ShowsEquation c e t s f
  large_shown e t p s f h l = subst (λ o. ShowsEquation c o t s f) (sym h.term) (ShowsEquation.large (is_parameter e t p h) l)

  -- under a parameter the term is ready
  pub entered_ready : (e : CoreTree) (t : Tree) (p : Parameter) (s z : Scope) → HasParameter c e t p → IsEntered c p s z →
      IsReady c e s.variables → IsReady c p.body.now z.variables
  entered_ready e t p s z h n r =
      let v : Variable = record { type = p.from.now; uses = n.uses } in
      let ready : IsReady c p.body.now (enter_all (v ∷ []) s.variables) =
      lambda_ready c h.at h.number p.uses p.binder.now p.body.now p.from.now s.variables
      (subst (λ o. IsReady c o s.variables) h.term r) n.small (v ∷ []) (refl, n.has, tt) in
      subst (IsReady c p.body.now) (sym (ap (λ (o : Scope). o.variables) n.is ∙ ap
      (λ (g : List Variable). v ∷ g) (inside_variables p.uses s))) ready

  -- the types in front of its arrow and behind it are well formed
  pub sides_formed : (e : CoreTree) (t : Tree) (p : Parameter) → HasParameter c e t p → IsFormed M.vars t →
      IsFormed M.vars p.from.now × IsFormed M.vars p.to.now
  sides_formed e t p h f = arrow_formed M.vars p.uses p.from.now p.to.now (subst (IsFormed M.vars) h.type f)

  -- one parameter more is entered
  pub entered_last : (e : CoreTree) (t : Tree) (s : Scope) (ps : List Parameter) (b : CoreTree) (r : Tree) (y : Scope)
      (p : Parameter) (z : Scope) →
      AreEntered c e t s ps b r y → HasParameter c b r p → IsEntered c p y z →
      AreEntered c e t s (ps ++ p ∷ []) p.body.now p.to.now z
  entered_last e t s [] b r y p z a h n = (
    subst (λ o. HasParameter c o t p) (sym a.0) (subst (λ o. HasParameter c b o p) (sym a.1) h),
    (z, subst (λ o. IsEntered c p o z) (sym a.2) n, (refl, refl, refl)),
  )
  entered_last e t s (q ∷ ps) b r y p z a h n =
      (a.0, (a.1.0, a.1.1, entered_last q.body.now q.to.now a.1.0 ps b r y p z a.1.2 h n))

  -- the innermost of the parameters that are entered
  pub record IsInnermost (e : CoreTree) (t : Tree) (s : Scope) (ps : List Parameter) (p : Parameter) (b : CoreTree) (r : Tree)
      (z : Scope) : Type 0 where
    pub term : CoreTree
    pub type : Tree
    pub scope : Scope
    pub outer : AreEntered c e t s ps term type scope
    pub has : HasParameter c term type p
    pub entered : IsEntered c p scope z
    pub body : p.body.now ≡ b
    pub to : p.to.now ≡ r

  -- it is taken off
  pub innermost : (e : CoreTree) (t : Tree) (s : Scope) (ps : List Parameter) (p : Parameter) (b : CoreTree) (r : Tree)
      (z : Scope) → AreEntered c e t s (ps ++ p ∷ []) b r z → IsInnermost e t s ps p b r z
  innermost e t s [] p b r z a = record {
    term = e;
    type = t;
    scope = s;
    outer = (refl, refl, refl);
    has = a.0;
    entered = subst (λ o. IsEntered c p s o) a.1.2.2 a.1.1;
    body = a.1.2.0;
    to = a.1.2.1;
  }
  innermost e t s (q ∷ ps) p b r z a =
      let i : IsInnermost q.body.now q.to.now a.1.0 ps p b r z = innermost q.body.now q.to.now a.1.0 ps p b r z a.1.2 in record {
        term = i.term;
        type = i.type;
        scope = i.scope;
        outer = (a.0, (a.1.0, a.1.1, i.outer));
        has = i.has;
        entered = i.entered;
        body = i.body;
        to = i.to;
      }

  -- what is found under all parameters is found under the innermost
  pub innermost_typed : (e : CoreTree) (t : Tree) (s : Scope) (ps : List Parameter) (p : Parameter) (b : CoreTree) (r : Tree)
      (z w : Scope) (d : Deriv) → IsInnermost e t s ps p b r z →
      IsEquationTyped c r z w b d → IsEquationTyped c p.to.now z w p.body.now d
  innermost_typed e t s ps p b r z w d i y = subst
      (λ o. IsEquationTyped c p.to.now z w o d) (sym i.body) (subst (λ o. IsEquationTyped c o z w b d) (sym i.to) y)

  -- what refuses the equation under a parameter refuses it
  pub inner_shown : (e : CoreTree) (t : Tree) (p : Parameter) (s z : Scope) (f : CheckFault) → HasParameter c e t p →
      IsEntered c p s z → ShowsEquation c p.body.now p.to.now z f → ShowsEquation c e t s f
  inner_shown e t p s z f h n l =
      subst (λ o. ShowsEquation c o t s f) (sym h.term)
      (ShowsEquation.inner (is_parameter e t p h) n.small n.has (subst (λ o. ShowsEquation c p.body.now p.to.now o f) n.is l))

  only_unused : (z : Scope) (x : Binder) (f : CheckFault) → ShowsUnused z (x ∷ []) f → IsUnused z 0 x f
  only_unused z x f (inl u) = u
  only_unused z x f (inr n) = absurd n.1

  -- and so does a parameter that isn't used
  pub unused_shown : (e : CoreTree) (t : Tree) (p : Parameter) (s z w : Scope) (b : Deriv) (f : CheckFault) →
      HasParameter c e t p → IsEntered c p s z → IsEquationTyped c p.to.now z w p.body.now b →
      ShowsUnused w (p.binder.now ∷ []) f → ShowsEquation c e t s f
  unused_shown e t p s z w b f h n y u =
      subst (λ o. ShowsEquation c o t s f) (sym h.term)
      (ShowsEquation.unused (is_parameter e t p h) n.small n.has
      (record {
        scope = w;
        derivation = b;
        typed = subst (λ o. IsEquationTyped c p.to.now o w p.body.now b) n.is y;
        unused =
            only_unused w p.binder.now f u;
      }))

  -- what refuses the equation under all parameters refuses it
  pub all_shown : (e : CoreTree) (t : Tree) (s : Scope) (ps : List Parameter) (b : CoreTree) (r : Tree) (z : Scope)
      (f : CheckFault) → AreEntered c e t s ps b r z → ShowsEquation c b r z f → ShowsEquation c e t s f
  all_shown e t s [] b r z f a l =
      subst (λ o. ShowsEquation c o t s f) (sym a.0)
      (subst (λ o. ShowsEquation c b o s f) (sym a.1) (subst (λ o. ShowsEquation c b r o f) (sym a.2) l))
  all_shown e t s (p ∷ ps) b r z f a l = inner_shown e t p s a.1.0 f a.0 a.1.1
      (all_shown p.body.now p.to.now a.1.0 ps b r z f a.1.2 l)

  -- with no parameters the equation is the term under them
  pub none_typed : (e : CoreTree) (t : Tree) (s : Scope) (ps : List Parameter) (b : CoreTree) (r : Tree) (z w : Scope)
      (d : Deriv) → ps ≡ [] → AreEntered c e t s ps b r z → IsEquationTyped c r z w b d → IsEquationTyped c t s w e d
  none_typed e t s ps b r z w d i a y =
      let same : (e ≡ b) × (t ≡ r) × (s ≡ z) = subst (λ (xs : List Parameter). AreEntered c e t s xs b r z) i a in
      subst (λ o. IsEquationTyped c t s w o d) (sym same.0)
      (subst (λ o. IsEquationTyped c o s w b d) (sym same.1) (subst (λ o. IsEquationTyped c r o w b d) (sym same.2) y))

  by_use : (n : Use) (e : CoreTree) (t : Tree) (p : Parameter) (s z : Scope) (b d : Deriv) → p.uses ≡ n → HasParameter c e t p →
      IsParameterTyped c p.binder.now p.from.now p.to.now (inside n s) z p.body.now b →
      d ≡ row t (one b) → IsEquationTyped c t s (after_body n z) e d
  by_use Once e t p s z b d i h y is = once_derived e t p s z b d h i y is
  by_use Many e t p s z b d i h y is = many_derived e t p s z (ended z) b d h y refl is

  -- the derivation of an equation from that of what is under its parameter, which is left
  pub left_derived : (e : CoreTree) (t : Tree) (p : Parameter) (s z w : Scope) (b d : Deriv) → HasParameter c e t p →
      IsEntered c p s z → IsEquationTyped c p.to.now z w p.body.now b → AreUsed 1 w →
      d ≡ row p.wanted.now (one b) → IsEquationTyped c t s (after_body p.uses (left w)) e d
  left_derived e t p s z w b d h n y u is =
      let under : IsParameterTyped c p.binder.now p.from.now p.to.now (inside p.uses s) (left w) p.body.now b =
      record {
        uses = n.uses;
        has = n.has;
        small = n.small;
        inner = w;
        typed = subst
            (λ o. IsEquationTyped c p.to.now o w p.body.now b) n.is y;
        used = u 0 (omega arith);
        left = refl;
      } in
      by_use p.uses e t p s (left w) b d refl h under (is ∙ ap (λ o. row o (one b)) (sym h.wanted))

  -- there is a variable to be left
  pub some_entered : {P : Vars → Type 0} (p : Parameter) (s z w : Scope) → IsEntered c p s z → Takes P z w →
      0 < length w.variables
  some_entered p s z w n y = subst (λ (g : List Variable). 0 < length g)
      (sym (ap (λ (o : Scope). o.variables) y.rest ∙ ap (λ (o : Scope). o.variables) n.is)) (omega arith)

  -- and in an unrestricted function a body to be ended
  pub some_body : {P : Vars → Type 0} (p : Parameter) (s z w : Scope) → IsEntered c p s z → Takes P z w → p.uses ≡ Many →
      0 < length w.bodies
  some_body p s z w n y m =
      subst (λ (g : List ℕ). 0 < length g) (sym (ap (λ (o : Scope). o.bodies) y.rest ∙ ap (λ (o : Scope). o.bodies) n.is ∙ ap
      (λ u. more (inside u s).bodies) m)) (omega arith)

-- what is so of an answer in two ways
pub both_ok : {A F : Type 0} (r : Result A F) (P Q R : A → Type 0) → ((x : A) → P x → Q x → R x) → IfOk r P → IfOk r Q → IfOk r R
both_ok (Ok x) P Q R f p q = f x p q
both_ok (Err e) P Q R f p q = tt
