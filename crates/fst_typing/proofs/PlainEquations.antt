-- Plain derivations of equations: their variables are determined; an equation that has a derivation has a plain one; and one by a mode is
-- one by each that asks for less.
use Rattle.std.proofs.Common.{◌≡◌, ◌∙◌, ◌⊎◌, inl, inr, ℕ, List, [], ◌∷◌, refl, slice_get, sym, ap, subst}
use Rattle.std.proofs.lemmas.Option.{same_Some}
use Rattle.fst_types.specs.Tree.{Tree, arrow}
use Rattle.fst_types.specs.declared.kind.Kind.{Kind}
use Rattle.fst_types.specs.declared.kind.Use.{Use}
use Rattle.fst_terms.specs.CoreTree.{CoreTree, local, global, int, bool, char, unit, pair, make, lambda, apply, let_in, split, if_else, case_of, operate, negate, new, send, receive, close, wait, select, match_with, fork, seq}
use Rattle.fst_terms.specs.declared.binder.Binder.{Binder}
use Rattle.fst_terms.specs.declared.core_module.Module.{Module}
use Rattle.fst_terms.specs.declared.global.GlobalEntry.{GlobalEntry}
use Rattle.fst_context.specs.Scope.{Variable, is_once}
use Rattle.fst_context.specs.Vars.{Vars, no_vars, under, outside}
use Rattle.fst_derivations.specs.Deriv.{Deriv, row, convert, one, type_of}
use Rattle.fst_derivations.specs.Parts.{HasUse, IsConversion}
use Rattle.fst_derivations.specs.Rules.{Surroundings, Mode, Compared, comparing, At, PlainRow}
use Rattle.fst_derivations.specs.Modules.{AreDerived, ArePlainlyDerived, Equation, HasNoParameter, HasPlainDerivations, IsParameter, surroundings}
use Rattle.fst_derivations.specs.Modules.Equation.{parameter, result}
use Rattle.fst_derivations.specs.Laws.{IsTypeEquality, HasPlain, PlainTypesAreUnique, DerivedIsPlain, Weaker}
use Rattle.fst_derivations.proofs.Laws.{one_parameter, one_use, weaker_at}

module _ (m : Surroundings) (unique : PlainTypesAreUnique) where
  abbrev E : Tree → Tree → Type 0
  E = IsConversion m.vars

  -- an equation has the same variables in all its plain derivations
  pub one_set : {e : CoreTree} {t : Tree} {g : List Variable} {u v : Vars} {c d : Deriv} → Equation m (comparing E) e t g u c →
      Equation m (comparing E) e t g v d → u ≡ v
  one_set {g = g} {u = u} (parameter {n = n} {e = a} {d = b} p has bound none x) (parameter {n = o} q has' bound' none' y) =
      let front = one_parameter q p in
      let use_of : n ≡ o = one_use m.vars p.from q.from n o front.0 has has' in
      let x1 = subst (λ r. Equation m (comparing E) a r (record { type = p.from; uses = n } ∷ g) (under (is_once n) u) b) front.1
      x in
      let x2 = subst (λ r. Equation m (comparing E) a q.to (record { type = r; uses = n } ∷ g) (under (is_once n) u) b) front.0
      x1 in
      let x3 = subst (λ r. Equation m (comparing E) a q.to (record { type = q.from; uses = r } ∷ g) (under (is_once r) u) b)
      use_of x2 in
      ap outside (one_set x3 y)
  one_set (parameter {at = at} {k = k} {uses = uses} {x = z} {e = a} p has bound none x) (result apart y) =
      absurd (apart at k uses z a refl p)
  one_set (result apart y) (parameter {at = at} {k = k} {uses = uses} {x = z} {e = a} p has bound none x) =
      absurd (apart at k uses z a refl p)
  one_set {e = e} {g = g} {u = u} {v = v} (result apart x) (result apart' y) = (unique m e g u v x.core y.core x.rule y.rule).1

module _ (m : Surroundings) (E : Tree → Tree → Type 0) (L : IsTypeEquality m.vars E)
    (decide : (at : ℕ) (uses : Use) (k : ℕ) (x : Binder) (t : Tree) → IsParameter m.types at uses k x t ⊎
    (IsParameter m.types at uses k x t → ⊥)) where
  abbrev Plain : CoreTree → Tree → List Variable → Vars → Type 0
  Plain e t g u = (d : Deriv) × Equation m (comparing E) e t g u d

  turned_to : (e : CoreTree) (t : Tree) (g : List Variable) (u : Vars) (x : HasPlain m E e g u t) →
      At m.vars t (Compared E) (PlainRow m E e g) u (convert (type_of x.derivation) t x.derivation)
  turned_to e t g u x = record {
    core = x.derivation;
    stands =
        (t, x.equal, refl);
    rule = x.rule;
    formed = L.formed (type_of x.derivation) t x.equal;
    wanted = refl;
  }

  -- of a term with no parameter in front
  under_all : (e : CoreTree) (t : Tree) (g : List Variable) (u : Vars) → HasNoParameter m.types e t → HasPlain m E e g u t →
      Plain e t g u
  under_all e t g u apart x = (convert (type_of x.derivation) t x.derivation, result apart (turned_to e t g u x))

  no_parameter : (at k : ℕ) (uses : Use) (z : Binder) (a : CoreTree) (t : Tree) →
      (IsParameter m.types at uses k z t → ⊥) → HasNoParameter m.types (lambda at uses k z a) t
  no_parameter at k uses z a t apart at' k' uses' z' a' e p =
      let places : at ≡ at' = cc in
      let numbers : k ≡ k' = cc in
      let same : uses ≡ uses' = cc in
      let binders : z ≡ z' = cc in
      apart (record {
        from = p.from;
        to = p.to;
        place = places ∙ p.place ∙ sym (ap (λ (o : Binder). o.at) binders);
        type = p.type ∙ sym (ap (λ n. arrow n p.from p.to) same);
        written = ap (slice_get m.types) numbers ∙ p.written;
      })

  -- the same of a function, where it is so of what is under it
  parameter_equation : (at : ℕ) (uses : Use) (k : ℕ) (z : Binder) (a : CoreTree) (t : Tree) (g : List Variable) (u : Vars) →
      ((t' : Tree) (g' : List Variable) (u' : Vars) → HasPlain m E a g' u' t' → Plain a t' g' u') →
      IsParameter m.types at uses k z t ⊎ (IsParameter m.types at uses k z t → ⊥) → HasPlain m E (lambda at uses k z a) g u t →
      Plain (lambda at uses k z a) t g u
  parameter_equation at uses k z a t g u inside (inr apart) x =
      under_all (lambda at uses k z a) t g u (no_parameter at k uses z a t apart) x
  parameter_equation at uses k z a t g u inside (inl p) x = go x.derivation x.rule x.equal
    where
      go : (c : Deriv) → PlainRow m E (lambda at uses k z a) g u c → E (type_of c) t → Plain (lambda at uses k z a) t g u
      go c (s, n, b, written, has, bound, none, o, is) eq =
          let same : s ≡ p.from = same_Some s p.from (sym written ∙ p.written) in
          let eq' : E (arrow uses s (type_of b)) (arrow uses p.from p.to) = subst
          (λ y. E (arrow uses s (type_of b)) y) p.type (subst (λ y. E y t) (ap type_of is) eq) in
          let r = L.arrows (arrow uses s (type_of b)) uses p.from p.to eq' in
          let parts : arrow uses s (type_of b) ≡ arrow uses r.0 r.1 = r.2 in
          let to : r.1 ≡ type_of b = cc in
          let found : E (type_of b) p.to = subst (λ y. E y p.to) to r.4 in
          let inner : HasPlain m E a (record { type = s; uses = n } ∷ g) (under (is_once n) u) p.to =
          record { derivation = o.core; rule = o.rule; equal = subst (λ y. E (type_of y) p.to) o.stands found } in
          let rest = inside p.to (record { type = p.from; uses = n } ∷ g) (under (is_once n) u)
          (subst (λ y. HasPlain m E a (record { type = y; uses = n } ∷ g) (under (is_once n) u) p.to) same inner) in
          (row t (one rest.0), parameter p (subst (λ y. HasUse m.vars y n) same has) tt none rest.1)

  -- a plain derivation of an equation's term, at a type equal to its signature's, leads to one of the equation
  pub plain_equation : (e : CoreTree) (t : Tree) (g : List Variable) (u : Vars) → HasPlain m E e g u t → Plain e t g u
  plain_equation (local at k) t g u x = under_all (local at k) t g u (λ a k n z b e. absurd (cc e)) x
  plain_equation (global at k ks) t g u x = under_all (global at k ks) t g u (λ a k n z b e. absurd (cc e)) x
  plain_equation (int at n) t g u x = under_all (int at n) t g u (λ a k n z b e. absurd (cc e)) x
  plain_equation (bool at b) t g u x = under_all (bool at b) t g u (λ a k n z b e. absurd (cc e)) x
  plain_equation (char at n) t g u x = under_all (char at n) t g u (λ a k n z b e. absurd (cc e)) x
  plain_equation (unit at) t g u x = under_all (unit at) t g u (λ a k n z b e. absurd (cc e)) x
  plain_equation (pair at a b) t g u x = under_all (pair at a b) t g u (λ a k n z b e. absurd (cc e)) x
  plain_equation (make at n k es) t g u x = under_all (make at n k es) t g u (λ a k n z b e. absurd (cc e)) x
  plain_equation (apply at a b) t g u x = under_all (apply at a b) t g u (λ a k n z b e. absurd (cc e)) x
  plain_equation (let_in at y a b) t g u x = under_all (let_in at y a b) t g u (λ a k n z b e. absurd (cc e)) x
  plain_equation (split at y z a b) t g u x = under_all (split at y z a b) t g u (λ a k n z b e. absurd (cc e)) x
  plain_equation (if_else at a b o) t g u x = under_all (if_else at a b o) t g u (λ a k n z b e. absurd (cc e)) x
  plain_equation (case_of at a bs) t g u x = under_all (case_of at a bs) t g u (λ a k n z b e. absurd (cc e)) x
  plain_equation (operate at o a b) t g u x = under_all (operate at o a b) t g u (λ a k n z b e. absurd (cc e)) x
  plain_equation (negate at a) t g u x = under_all (negate at a) t g u (λ a k n z b e. absurd (cc e)) x
  plain_equation (new at k) t g u x = under_all (new at k) t g u (λ a k n z b e. absurd (cc e)) x
  plain_equation (send at a b) t g u x = under_all (send at a b) t g u (λ a k n z b e. absurd (cc e)) x
  plain_equation (receive at a) t g u x = under_all (receive at a) t g u (λ a k n z b e. absurd (cc e)) x
  plain_equation (close at a) t g u x = under_all (close at a) t g u (λ a k n z b e. absurd (cc e)) x
  plain_equation (wait at a) t g u x = under_all (wait at a) t g u (λ a k n z b e. absurd (cc e)) x
  plain_equation (select at l a) t g u x = under_all (select at l a) t g u (λ a k n z b e. absurd (cc e)) x
  plain_equation (match_with at a bs) t g u x = under_all (match_with at a bs) t g u (λ a k n z b e. absurd (cc e)) x
  plain_equation (fork at a) t g u x = under_all (fork at a) t g u (λ a k n z b e. absurd (cc e)) x
  plain_equation (seq at a b) t g u x = under_all (seq at a b) t g u (λ a k n z b e. absurd (cc e)) x
  plain_equation (lambda at uses k z a) t g u x = parameter_equation at uses k z a t g u
      (λ t' g' u' y. plain_equation a t' g' u' y) (decide at uses k z t) x

-- a derivation of an equation stays one where less is asked
pub equation_more : (m : Surroundings) (S T : Mode) → Weaker S T →
    {e : CoreTree} {t : Tree} {g : List Variable} {u : Vars} {d : Deriv} → Equation m S e t g u d → Equation m T e t g u d
equation_more m S T fewer (parameter p has bound none x) =
    parameter p has (fewer.bound p.from bound) none (equation_more m S T fewer x)
equation_more m S T fewer {e} {t} {g} {u} {d} (result apart x) = result apart (weaker_at m S T fewer e t g u d x)

module _ (m : Module) (S T : List Kind → Mode) (fewer : (vars : List Kind) → Weaker (S vars) (T vars)) where
  globals_more : (gs : List GlobalEntry) (ds : List Deriv) → ArePlainlyDerived m S gs ds → ArePlainlyDerived m T gs ds
  globals_more [] [] h = tt
  globals_more [] (d ∷ ds) h = absurd h
  globals_more (g ∷ gs) [] h = absurd h
  globals_more (g ∷ gs) (d ∷ ds) ((t, there, x), more) =
      let V = g.kinds.items in
      ((t, there, equation_more (surroundings m V) (S V) (T V) (fewer V) x), globals_more gs ds more)

  -- so it is with those of a module
  pub module_more : (ds : List Deriv) → HasPlainDerivations m S ds → HasPlainDerivations m T ds
  module_more ds h = record {
    types = h.types;
    fields = h.fields;
    main = h.main;
    equations =
        globals_more m.globals.items ds h.equations;
  }

-- a module whose equations have derivations has plain ones
pub globals_plain : (m : Module) → DerivedIsPlain → ((vars : List Kind) → IsTypeEquality vars (IsConversion vars)) →
    ((at : ℕ) (uses : Use) (k : ℕ) (x : Binder) (t : Tree) → IsParameter m.types.items at uses k x t ⊎
    (IsParameter m.types.items at uses k x t → ⊥)) →
    (gs : List GlobalEntry) (ds : List Deriv) → AreDerived m IsConversion gs ds →
    (es : List Deriv) × ArePlainlyDerived m (λ vars. comparing (IsConversion vars)) gs es
globals_plain m plainly L decide [] [] h = ([], tt)
globals_plain m plainly L decide [] (d ∷ ds) h = absurd h
globals_plain m plainly L decide (g ∷ gs) [] h = absurd h
globals_plain m plainly L decide (g ∷ gs) (d ∷ ds) ((t, there, x), more) =
    let M = surroundings m g.kinds.items in
    let E = IsConversion g.kinds.items in
    let y = plainly M (L g.kinds.items) g.body [] no_vars d tt
    (record { core = x.core; stands = x.stands; rule = x.rule; formed = x.formed }) in
    let z = plain_equation M E (L g.kinds.items) decide g.body t [] no_vars
    (subst (λ s. HasPlain M E g.body [] no_vars s) x.wanted y) in
    let rest = globals_plain m plainly L decide gs ds more in
    (z.0 ∷ rest.0, ((t, there, z.1), rest.1))
