-- Where a refusal is shown of a module, the module has no plain derivations.
use Rattle.std.proofs.Common.{◌≡◌, ◌∙◌, ◌++◌, inl, inr, ℕ, false, List, [], ◌∷◌, Some, slice_get, refl, sym, ap, subst}
use Rattle.fst_base.proofs.Bools.{never_both}
use Rattle.fst_types.specs.Tree.{Tree}
use Rattle.fst_types.specs.declared.kind.Kind.{Kind}
use Rattle.fst_types.specs.declared.kind.Use.{Use}
use Rattle.fst_types.specs.declared.kind.Use.TheVariants.{Many, Once}
use Rattle.fst_terms.specs.CoreTree.{CoreTree}
use Rattle.fst_terms.specs.declared.binder.Binder.{Binder}
use Rattle.fst_terms.specs.declared.core_module.Module.{Module}
use Rattle.fst_terms.specs.declared.global.GlobalEntry.{GlobalEntry}
use Rattle.fst_context.specs.Scope.{Scope, is_once, at_or_not, without, IsWithin}
use Rattle.fst_context.proofs.Laws.{within_entered}
use Rattle.fst_context.specs.Vars.{Vars, no_vars, under}
use Rattle.fst_derivations.specs.Deriv.{Deriv}
use Rattle.fst_derivations.specs.Parts.{HasUse, IsConversion}
use Rattle.fst_derivations.specs.Rules.{Mode, Row, comparing, within, At}
use Rattle.fst_derivations.specs.Modules.{ArePlainlyDerived, Equation, IsParameter, HasMain, HasPlainDerivations, IsMain, IsPrintable, surroundings}
use Rattle.fst_derivations.specs.Laws.{PlainTypesAreUnique}
use Rattle.fst_derivations.proofs.Laws.{one_parameter, one_use, within_compares}
use Rattle.fst_typing.proofs.PlainEquations.{one_set, equation_more}
use Rattle.fst_written.proofs.Laws.{refused, fields_refused}
use Rattle.fst_premises.specs.Checks.{Check, IsInSize}
use Rattle.fst_premises.specs.Parameters.{with_parameter}
use Rattle.fst_premises.specs.Scopes.{inside}
use Rattle.fst_premises.specs.Shown.{place}
use Rattle.fst_premises.specs.declared.fault.CheckFault.{CheckFault}
use Rattle.fst_typing.specs.Typed.{IsKnown, checking}
use Rattle.fst_typing.specs.Equations.{ShowsEquation, ShowsResult}
use Rattle.fst_typing.specs.Checked.{IsRefusal, IsNamedMain, ShowsGlobal, check_over}
use Rattle.fst_typing.specs.Checked.IsRefusal.{kinds, field, equation}
use Rattle.fst_typing.proofs.Groundless.{Excludes, at_none, no_plain, within_inside}

module _ (c : Check) (unique : PlainTypesAreUnique) (I : CheckFault → Type 0) (L : Tree → Type 0) (E : Tree → Tree → Type 0)
    (excludes : Excludes c unique I L E) where
  abbrev S : Mode
  S = within L E

  abbrev F : Tree → Tree → Type 0
  F = IsConversion c.surroundings.vars

  no_result : (e : CoreTree) (t : Tree) (f : CheckFault) → I f → (s : Scope) → ShowsResult c e t s f →
      (u : Vars) (d : Deriv) → At c.surroundings.vars t S.compared (Row c.surroundings S e s.variables) u d → IsWithin u s → ⊥
  no_result e t f i s x u d y w = at_none c unique I L E excludes e f (no_plain c unique I L E excludes e f i) s _ x t u d y w
      (λ r k z. excludes.unequal (place e) r t f i k z)

  same_variables_inside : (uses : Use) (s : Scope) → (inside uses s).variables ≡ s.variables
  same_variables_inside Many s = refl
  same_variables_inside Once s = refl

  -- the derivation under a parameter, as it is where the refusal is shown
  abbrev Behind : Binder → CoreTree → Tree → Tree → Use → Use → Scope → Vars → Deriv → Type 0
  Behind z a from to uses n s u b = Equation c.surroundings S a to (with_parameter z from n (inside uses s)).variables
      (under (is_once n) u) b

  behind : (s : Scope) {at k : ℕ} {uses n o : Use} {z : Binder} {a : CoreTree} {t : Tree} {u : Vars} {b : Deriv}
      (p q : IsParameter c.surroundings.types at uses k z t) →
      HasUse c.surroundings.vars p.from n → HasUse c.surroundings.vars q.from o →
      Equation c.surroundings S a q.to (record { type = q.from; uses = o } ∷ s.variables) (under (is_once o) u) b →
      Behind z a p.from p.to uses n s u b
  behind s {uses = uses} {n = n} {o = o} {a = a} {u = u} {b = b} p q has has' y =
      let front = one_parameter p q in
      let use_of : o ≡ n = one_use c.surroundings.vars q.from p.from o n front.0 has' has in
      let y1 = subst (λ r. Equation c.surroundings S a r (record { type = q.from; uses = o } ∷ s.variables)
      (under (is_once o) u) b) front.1 y in
      let y2 = subst (λ r. Equation c.surroundings S a p.to (record { type = r; uses = o } ∷ s.variables) (under (is_once o) u) b)
      front.0 y1 in
      let y3 = subst (λ r. Equation c.surroundings S a p.to (record { type = p.from; uses = r } ∷ s.variables)
      (under (is_once r) u) b) use_of y2 in
      subst (λ r. Equation c.surroundings S a p.to (record { type = p.from; uses = n } ∷ r) (under (is_once n) u) b)
      (sym (same_variables_inside uses s)) y3

  -- where a refusal is shown of an equation, it has no plain derivation
  pub no_equation : {e : CoreTree} {t : Tree} {s : Scope} {f : CheckFault} {u : Vars} {d : Deriv} → I f →
      ShowsEquation c e t s f → Equation c.surroundings S e t s.variables u d → IsWithin u s → ⊥
  no_equation {f = f} i (ShowsEquation.large {x = z} p l) (Equation.parameter q has bound none y) w =
      excludes.large z.at p.from f i (subst L (one_parameter p q).0 bound) l
  no_equation {s = s} {u = u} i (ShowsEquation.inner {uses = uses} {n = n} {x = z} p m has x)
      (Equation.parameter q has' bound none y) w =
      no_equation i x (behind s p q has has' y) (within_entered z.name (record { type = p.from; uses = n }) (inside uses s) u
      (within_inside uses u s none w))
  no_equation {s = s} {u = u} i (ShowsEquation.unused {uses = uses} {n = n} {x = z} p m has v)
      (Equation.parameter q has' bound none y) w =
      let there : Scope = with_parameter z p.from n (inside uses s) in
      let taken = v.typed in
      let found = equation_more c.surroundings (checking c) (comparing F)
      (within_compares IsInSize (IsKnown c) F (λ p q k. k.conversion)) taken.fact in
      let given = equation_more c.surroundings S (comparing F) (within_compares L E F excludes.equal) (behind s p q has has' y) in
      let set = one_set c.surroundings unique found given in
      let mark : at_or_not v.scope.there 0 ≡ false = ap
      (λ (r : Scope). at_or_not r.there 0) (taken.rest ∙ ap (λ r. without r there) set) ∙ never_both (is_once n) in
      cc (v.unused.there, mark)
  no_equation i (ShowsEquation.large {at = at} {k = k} {uses = uses} {x = z} {e = a} p l) (Equation.result apart y) w =
      apart at k uses z a refl p
  no_equation i (ShowsEquation.inner {at = at} {k = k} {uses = uses} {x = z} {e = a} p m has x) (Equation.result apart y) w =
      apart at k uses z a refl p
  no_equation i (ShowsEquation.unused {at = at} {k = k} {uses = uses} {x = z} {e = a} p m has x) (Equation.result apart y) w =
      apart at k uses z a refl p
  no_equation i (ShowsEquation.result apart x) (Equation.parameter {at = at} {k = k} {uses = uses} {x = z} {e = a} q has bound
      none y) w = apart at k uses z a refl q
  no_equation {e = e} {t = t} {s = s} {f = f} {u = u} {d = d} i (ShowsEquation.result apart x) (Equation.result apart' y) w =
      no_result e t f i s x u d y w

-- what is found of a module with plain derivations
module _ (m : Module) (budget : ℕ) (unique : PlainTypesAreUnique) (I : CheckFault → Type 0) (L : Tree → Type 0)
    (E : List Kind → Tree → Tree → Type 0)
    (excludes : (vars : List Kind) → Excludes (check_over m budget vars) unique I L (E vars)) where
  abbrev T : List Kind → Mode
  T vars = within L (E vars)

  equation_at : (before after : List GlobalEntry) (g : GlobalEntry) (ds : List Deriv) →
      ArePlainlyDerived m T (before ++ g ∷ after) ds →
      (d : Deriv) × (t : Tree) × (slice_get m.types.items g.signature ≡ Some t) ×
      Equation (surroundings m g.kinds.items) (T g.kinds.items) g.body t [] no_vars d
  equation_at [] after g [] x = absurd x
  equation_at [] after g (d ∷ ds) ((t, there, y), more) = (d, t, there, y)
  equation_at (h ∷ before) after g [] x = absurd x
  equation_at (h ∷ before) after g (d ∷ ds) x = equation_at before after g ds x.1

  main_at : (before after : List GlobalEntry) (g : GlobalEntry) → HasMain m.types.items (before ++ g ∷ after) → IsNamedMain g →
      IsMain m.types.items g
  main_at [] after g x = x.0
  main_at (h ∷ before) after g x = main_at before after g x.1

  -- where a global is refused, it isn't main with a type for it, or has no plain derivation
  pub no_global : (g : GlobalEntry) (f : CheckFault) → I f → ShowsGlobal m budget g f → (IsNamedMain g → IsMain m.types.items g) →
      (d : Deriv) (t : Tree) → slice_get m.types.items g.signature ≡ Some t →
      Equation (surroundings m g.kinds.items) (T g.kinds.items) g.body t [] no_vars d → ⊥
  no_global g f i (inl (named, inl x)) main d t there y = x.0 (main named).0
  no_global g f i (inl (named, inr (none, (t', there', apart, is)))) main d t there y =
      let p = (main named).1 in
      let types : p.0 ≡ t' = cc (sym p.1 ∙ there') in
      apart (subst IsPrintable types p.2)
  no_global g f i (inr (named, (t', there', x))) main d t there y =
      let same : t ≡ t' = cc (sym there ∙ there') in
      no_equation (check_over m budget g.kinds.items) unique I L (E g.kinds.items) (excludes g.kinds.items) i x
      (subst (λ r. Equation (surroundings m g.kinds.items) (T g.kinds.items) g.body r [] no_vars d) same y) (λ j h. absurd (cc h))

  -- where a refusal is shown of a module, it has no plain derivations
  pub no_module : (f : CheckFault) → I f → IsRefusal m budget f → (ds : List Deriv) → HasPlainDerivations m T ds → ⊥
  no_module f i (kinds at fault first written is) ds h = refused m at fault first h.types
  no_module f i (field k at t formed first there type is) ds h = fields_refused m k first h.fields
  no_module f i (equation g formed fields first x) ds h =
      let y = equation_at first.before first.after g ds (subst (λ gs. ArePlainlyDerived m T gs ds) first.stands h.equations) in
      no_global g f i x (main_at first.before first.after g (subst (HasMain m.types.items) first.stands h.main)) y.0 y.1 y.2 y.3
