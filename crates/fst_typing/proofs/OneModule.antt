-- A module is refused in one way at most; and one that is accepted isn't refused, and is within the limits.
use Rattle.std.proofs.Common.{◌≡◌, ◌∙◌, ◌<◌, inl, inr, ℕ, suc, List, [], ◌∷◌, ◌++◌, Some, slice_get, refl, sym, ap, subst, arith}
use Rattle.std.specs.Prelude.{⊤, ◌↔◌, Err}
use Rattle.std.proofs.lemmas.Bool.{cases_lt}
use Rattle.std.proofs.lemmas.Option.{same_Some}
use Rattle.fst_types.specs.Tree.{Tree}
use Rattle.fst_types.specs.declared.kind.Kind.{Kind}
use Rattle.fst_types.specs.declared.kind.Use.{Use}
use Rattle.fst_kinds.specs.Faults.{IsFirstFault}
use Rattle.fst_kinds.specs.Walk.{walk}
use Rattle.fst_kinds.specs.declared.fault.KindFault.{KindFault}
use Rattle.fst_terms.specs.CoreTree.{CoreTree}
use Rattle.fst_terms.specs.declared.binder.Binder.{Binder}
use Rattle.fst_terms.specs.declared.core_module.Module.{Module}
use Rattle.fst_terms.specs.declared.global.GlobalEntry.{GlobalEntry}
use Rattle.fst_context.specs.Scope.{Scope, empty}
use Rattle.fst_derivations.specs.Modules.{IsMain, IsParameter, IsPrintable, AreTypesFormed}
use Rattle.fst_derivations.specs.Parts.{HasUse, IsFormed}
use Rattle.fst_derivations.specs.Rules.{within}
use Rattle.fst_derivations.specs.Laws.{PlainTypesAreUnique}
use Rattle.fst_derivations.proofs.Laws.{one_parameter, one_use, within_more}
use Rattle.fst_equiv.specs.Comparison.{IsComparison}
use Rattle.fst_equiv.specs.Outcomes.{HasOutcome, outcome_of, OneOutcome}
use Rattle.fst_equiv.specs.declared.comparing.Same.{Same}
use Rattle.fst_written.specs.Faults.{IsFirstKindFault}
use Rattle.fst_written.specs.First.{AreBefore, IsFirst}
use Rattle.fst_written.specs.Printable.{IsFirstUnprintable, IsPrintableAt}
use Rattle.fst_written.specs.Readings.{Reading, begins, begins_at, readings, IsFormedReading}
use Rattle.fst_written.proofs.Laws.{makers_formed, refused, signature_formed, fields_refused}
use Rattle.fst_premises.specs.Checks.{Check, IsInSize}
use Rattle.fst_premises.specs.Parameters.{with_parameter}
use Rattle.fst_premises.specs.Scopes.{inside}
use Rattle.fst_premises.specs.Shown.{IsTooLargeAt, place}
use Rattle.fst_premises.specs.declared.fault.CheckFault.{CheckFault}
use Rattle.fst_premises.specs.declared.fault.CheckFault.TheVariants.{Kinds, NotPrintable, TooLarge, Undecided}
use Rattle.fst_typing.specs.Typed.{IsKnown}
use Rattle.fst_typing.specs.Shown.{IsUnequal}
use Rattle.fst_typing.specs.Shown.IsUnequal.{undecided, too_large}
use Rattle.fst_typing.specs.Equations.{ShowsEquation, ShowsResult, LeavesUnused}
use Rattle.fst_typing.specs.Equations.ShowsEquation.{large, inner, unused, result}
use Rattle.fst_typing.specs.Checked.{IsAnswered, IsGlobalAccepted, ShowsGlobal, ShowsMain, check_over, checking_over}
use Rattle.fst_typing.specs.Checked.IsRefusal.{kinds, field, equation}
use Rattle.fst_typing.specs.Laws.{SaySame, itself, AcceptedIsWithin, OneRefusal, AcceptedIsNotRefused}
use Rattle.fst_typing.proofs.Formed.{arrow_formed}
use Rattle.fst_typing.proofs.GroundlessModules.{no_equation, no_global, no_module}
use Rattle.fst_typing.proofs.Makers.{formed_fields}
use Rattle.fst_typing.proofs.OneShown.{IsOne, exact, excludes, not_both, not_large, one_first, one_large, one_shown, one_unequal}
use Rattle.fst_typing.proofs.PlainEquations.{module_more}

-- ---- the first of a list

-- what stands behind some others
abbrev stands_in : {A : Type 0} (begins : A → ℕ) (P : A → Type 0) (at : ℕ) (before after : List A) (x : A) →
    AreBefore begins P at (before ++ x ∷ after) → begins x < at → P x
stands_in begins P at [] after x h l = h.0 l
stands_in begins P at (y ∷ before) after x h l = stands_in begins P at before after x h.1 l

module _ {A : Type 0} (begins : A → ℕ) (P : A → Type 0) (x y : A) (nx : P x → ⊥) (ny : P y → ⊥) where
  -- x can't stand before y, where both are the first
  ordered : (at : ℕ) (before after : List A) → AreBefore begins P (begins x) (before ++ y ∷ after) →
      (begins x < suc (begins y) → P x) → ⊥
  ordered at before after later earlier = elim (cases_lt (begins y) (begins x)) as (λ _. ⊥) [
    | inl l ↦ ny (stands_in begins P (begins x) before after y later l)
    | inr l ↦ nx (earlier (omega (arith, l)))
  ]

first_once : {A : Type 0} (begins : A → ℕ) (P : A → Type 0) (x y : A) → (P x → ⊥) → (P y → ⊥) →
    (b1 a1 b2 a2 : List A) → b1 ++ x ∷ a1 ≡ b2 ++ y ∷ a2 →
    AreBefore begins P (suc (begins x)) b1 → AreBefore begins P (begins x) a1 → AreBefore begins P (suc (begins y)) b2 →
    AreBefore begins P (begins y) a2 → x ≡ y
first_once begins P x y nx ny [] a1 [] a2 e p q r s = cc e
first_once begins P x y nx ny [] a1 (z ∷ b2) a2 e p q r s =
    let same : x ≡ z = cc in
    let rest : a1 ≡ b2 ++ y ∷ a2 = cc in
    absurd (ordered begins P x y nx ny 0 b2 a2 (subst (AreBefore begins P (begins x)) rest q)
    (λ l. subst P (sym same) (r.0 (subst (λ w. begins w < suc (begins y)) same l))))
first_once begins P x y nx ny (z ∷ b1) a1 [] a2 e p q r s =
    let same : y ≡ z = cc (sym e) in
    let rest : a2 ≡ b1 ++ x ∷ a1 = cc (sym e) in
    absurd (ordered begins P y x ny nx 0 b1 a1 (subst (AreBefore begins P (begins y)) rest s)
    (λ l. subst P (sym same) (p.0 (subst (λ w. begins w < suc (begins x)) same l))))
first_once begins P x y nx ny (z ∷ b1) a1 (w ∷ b2) a2 e p q r s =
    let rest : b1 ++ x ∷ a1 ≡ b2 ++ y ∷ a2 = cc in
    first_once begins P x y nx ny b1 a1 b2 a2 rest p.1 q r.1 s

-- a list has one first at most that isn't as P says
one_of_first : {A : Type 0} (begins : A → ℕ) (P : A → Type 0) (xs : List A) (x y : A) → (P x → ⊥) →
    (P y → ⊥) → IsFirst begins P xs x → IsFirst begins P xs y → x ≡ y
one_of_first begins P xs x y nx ny f g = first_once begins P x y nx ny f.before f.after g.before g.after
    (sym f.stands ∙ g.stands) f.earlier f.later g.earlier g.later

-- ---- equations

module _ (outcomes : OneOutcome) (found : (t u : Tree) (budget : ℕ) (a : Same) → IsComparison t u budget a →
    HasOutcome t u budget (outcome_of a)) (unique : PlainTypesAreUnique) where
  abbrev Each : CheckFault → Type 0
  Each f = ⊤

  module _ (c : Check) (one : (e : CoreTree) (s : Scope) → IsOne (λ f. Rattle.fst_typing.specs.Shown.Shows c e s f)) where
    one_result : (e : CoreTree) (t : Tree) (s : Scope) → IsFormed c.surroundings.vars t → IsOne (ShowsResult c e t s)
    one_result e t s h = one_first c outcomes found unique e s (λ f z u. IsUnequal c (place e) u t f) (one e s)
        (λ z u k. one_unequal c outcomes found (place e) u t k h)

    -- what is said of the term under a parameter
    module _ {at k : ℕ} {uses n o : Use} {x : Binder} {t : Tree} (p q : IsParameter c.surroundings.types at uses k x t)
        (has : HasUse c.surroundings.vars p.from n) (has' : HasUse c.surroundings.vars q.from o)
        (P : Tree → Scope → Type 0) (s : Scope) where
      -- by two descriptions of the parameter it is the same
      one_front : P q.to (with_parameter x q.from o (inside uses s)) → P p.to (with_parameter x p.from n (inside uses s))
      one_front y =
          let front = one_parameter p q in
          let use_of : o ≡ n = one_use c.surroundings.vars q.from p.from o n front.0 has' has in
          subst (λ r. P p.to (with_parameter x p.from r (inside uses s))) use_of
          (subst (λ r. P p.to (with_parameter x r o (inside uses s))) front.0
          (subst (λ r. P r (with_parameter x q.from o (inside uses s))) front.1 y))

    result_formed : {at k : ℕ} {uses : Use} {x : Binder} {t : Tree} (p : IsParameter c.surroundings.types at uses k x t) →
        IsFormed c.surroundings.vars t → IsFormed c.surroundings.vars p.to
    result_formed {uses = uses} p h = (arrow_formed c.surroundings.vars uses p.from p.to
        (subst (IsFormed c.surroundings.vars) p.type h)).1

    typed : (x : Binder) (t : Tree) (s : Scope) (e : CoreTree) (f f' : CheckFault) → ShowsEquation c e t s f →
        LeavesUnused c x t s e f' → ⊥
    typed x t s e f f' v w = no_equation c unique Each IsInSize (IsKnown c)
        (excludes c outcomes found unique) tt v w.typed.fact w.typed.within

    -- an equation is refused in one way at most
    one_equation : {e : CoreTree} {t : Tree} {s : Scope} {f g : CheckFault} → IsFormed c.surroundings.vars t →
        ShowsEquation c e t s f → ShowsEquation c e t s g → SaySame f g
    one_equation {f = f} {g = g} h (large {x = x} p l) (large q m) =
        one_large x.at p.from f g l (subst (λ r. IsTooLargeAt x.at r g) (one_parameter p q).0 m)
    one_equation {f = f} h (large {x = x} p l) (inner q m has w) =
        absurd (not_large x.at p.from f l (subst IsInSize (one_parameter p q).0 m))
    one_equation {f = f} h (large {x = x} p l) (unused q m has w) =
        absurd (not_large x.at p.from f l (subst IsInSize (one_parameter p q).0 m))
    one_equation {g = g} h (inner {x = x} p m has w) (large q l) =
        absurd (not_large x.at q.from g l (subst IsInSize (one_parameter q p).0 m))
    one_equation {g = g} h (unused {x = x} p m has w) (large q l) =
        absurd (not_large x.at q.from g l (subst IsInSize (one_parameter q p).0 m))
    one_equation {s = s} {g = g} h (inner {e = e} p m has v) (inner q m' has' w) =
        one_equation (result_formed p h) v (one_front p q has has' (λ r z. ShowsEquation c e r z g) s w)
    one_equation {s = s} {f = f} {g = g} h (inner {uses = uses} {n = n} {x = x} {e = e} p m has v) (unused q m' has' w) =
        absurd (typed x p.to (with_parameter x p.from n (inside uses s)) e f g v
        (one_front p q has has' (λ r z. LeavesUnused c x r z e g) s w))
    one_equation {s = s} {f = f} {g = g} h (unused {x = x} {e = e} p m has v) (inner {uses = uses} {n = o} q m' has' w) =
        absurd (typed x q.to (with_parameter x q.from o (inside uses s)) e g f w
        (one_front q p has' has (λ r z. LeavesUnused c x r z e f) s v))
    one_equation h (unused p m has v) (unused q m' has' w) = exact v.unused.is w.unused.is
    one_equation h (result apart x) (large {at = at} {k = k} {uses = uses} {x = z} {e = e} q l) =
        absurd (apart at k uses z e refl q)
    one_equation h (result apart x) (inner {at = at} {k = k} {uses = uses} {x = z} {e = e} q m has w) =
        absurd (apart at k uses z e refl q)
    one_equation h (result apart x) (unused {at = at} {k = k} {uses = uses} {x = z} {e = e} q m has w) =
        absurd (apart at k uses z e refl q)
    one_equation h (large {at = at} {k = k} {uses = uses} {x = z} {e = e} q l) (result apart x) =
        absurd (apart at k uses z e refl q)
    one_equation h (inner {at = at} {k = k} {uses = uses} {x = z} {e = e} q m has w) (result apart x) =
        absurd (apart at k uses z e refl q)
    one_equation h (unused {at = at} {k = k} {uses = uses} {x = z} {e = e} q m has w) (result apart x) =
        absurd (apart at k uses z e refl q)
    one_equation {e = e} {t = t} {s = s} {f = f} {g = g} h (result apart x) (result apart' y) = one_result e t s h f g x y

  -- ---- modules

  module _ (m : Module) (budget : ℕ) where
    abbrev C : List Kind → Check
    C vars = check_over m budget vars

    one_main : (g : GlobalEntry) → IsOne (ShowsMain m g)
    one_main g f f' (inl x) (inl y) = exact x.1 y.1
    one_main g f f' (inl x) (inr y) = absurd (x.0 y.0)
    one_main g f f' (inr x) (inl y) = absurd (y.0 x.0)
    one_main g f f' (inr (none, (t, there, apart, is))) (inr (none', (t', there', apart', is'))) =
        let types : t ≡ t' = same_Some t t' (sym there ∙ there') in
        itself (is ∙ ap (NotPrintable g.signature_at) types ∙ sym is')

    not_main : (g : GlobalEntry) (f : CheckFault) → ShowsMain m g f → IsMain m.types.items g → ⊥
    not_main g f (inl x) y = x.0 y.0
    not_main g f (inr (none, (t, there, apart, is))) (none', (t', there', prints)) =
        apart (subst IsPrintable (same_Some t' t (sym there' ∙ there)) prints)

    -- a global is refused in one way at most
    one_global : AreTypesFormed m → (k : ℕ) (g : GlobalEntry) → slice_get m.globals.items k ≡ Some g →
        IsOne (ShowsGlobal m budget g)
    one_global h k g is f f' (inl x) (inl y) = one_main g f f' x.1 y.1
    one_global h k g is f f' (inl x) (inr y) = absurd (not_main g f x.1 (y.0 x.0))
    one_global h k g is f f' (inr x) (inl y) = absurd (not_main g f' y.1 (x.0 y.0))
    one_global h k g is f f' (inr (main, (t, there, x))) (inr (main', (t', there', y))) =
        let types : t ≡ t' = same_Some t t' (sym there ∙ there') in
        let signature = signature_formed m h k g is in
        let formed : IsFormed g.kinds.items t' = subst (IsFormed g.kinds.items)
        (same_Some signature.0 t' (sym signature.1 ∙ there')) signature.2 in
        let c : Check = C g.kinds.items in
        let one = one_shown c outcomes found unique (λ n j o e. formed_fields c n j o (makers_formed m h) e) in
        one_equation c one formed (subst (λ r. ShowsEquation c g.body r empty f) types x) y

    -- a global that is accepted isn't refused
    accepted_apart : (g : GlobalEntry) (f : CheckFault) → ShowsGlobal m budget g f → IsGlobalAccepted m budget g → ⊥
    accepted_apart g f x a =
        no_global m budget unique Each IsInSize (λ vars. IsKnown (C vars))
        (λ vars. excludes (C vars) outcomes found unique) g f tt x a.main a.derivation a.derived.0 a.derived.1 a.derived.2

    one_kind_fault : ((vars : List Kind) (t : Tree) (f : KindFault) → (walk vars t ≡ Err f) ↔ IsFirstFault vars t f) →
        (at at' : ℕ) (f f' : KindFault) → IsFirstKindFault m (readings m) at f → IsFirstKindFault m (readings m) at' f' →
        (at ≡ at') × (f ≡ f')
    one_kind_fault walked at at' f f' x y = (
      same_Some at at' (sym x.fails.begins ∙ ap (λ (r : Reading). slice_get m.places.items r.number) reading ∙ y.fails.begins),
      faults,
    )
      where
        unformed : (at : ℕ) (f : KindFault) (z : IsFirstKindFault m (readings m) at f) → IsFormedReading m z.reading → ⊥
        unformed at f z h = z.fails.unformed (subst (IsFormed z.reading.vars)
            (same_Some h.0 z.fails.type (sym h.1 ∙ z.fails.is)) h.2)

        reading : x.reading ≡ y.reading
        reading = one_of_first (begins m) (IsFormedReading m) (readings m) x.reading y.reading (unformed at f x)
            (unformed at' f' y) x.first y.first

        types : x.fails.type ≡ y.fails.type
        types = same_Some x.fails.type y.fails.type
            (sym x.fails.is ∙ ap (λ (r : Reading). slice_get m.types.items r.number) reading ∙ y.fails.is)

        faults : f ≡ f'
        faults =
            let mine : IsFirstFault y.reading.vars y.fails.type f = subst
            (λ t. IsFirstFault y.reading.vars t f) types
            (subst (λ (r : Reading). IsFirstFault r.vars x.fails.type f) reading x.fails.fails) in
            cc (sym ((walked y.reading.vars y.fails.type f).1 mine) ∙ (walked y.reading.vars y.fails.type f').1 y.fails.fails)

    one_field : (k k' : ℕ) (ks : List ℕ) → IsFirstUnprintable m ks k → IsFirstUnprintable m ks k' → k ≡ k'
    one_field k k' ks x y = one_of_first (begins_at m) (IsPrintableAt m.types.items) ks k k' (unprintable k x)
        (unprintable k' y) x.first y.first
      where
        unprintable : (j : ℕ) (z : IsFirstUnprintable m ks j) → IsPrintableAt m.types.items j → ⊥
        unprintable j z h = z.unprintable (subst IsPrintable (same_Some h.0 z.type (sym h.1 ∙ z.is)) h.2)

  place_of : {A : Type 0} (before after : List A) (x : A) → (k : ℕ) × (slice_get (before ++ x ∷ after) k ≡ Some x)
  place_of [] after x = (0, refl)
  place_of (y ∷ before) after x = let r = place_of before after x in (suc r.0, r.1)

  pub one_refusal : ((vars : List Kind) (t : Tree) (f : KindFault) → (walk vars t ≡ Err f) ↔ IsFirstFault vars t f) → OneRefusal
  one_refusal walked m budget f g (kinds at fault first written is) (kinds at' fault' first' written' is') =
      let one = one_kind_fault m budget walked at at' fault fault' first first' in
      itself (is ∙ (λ i. Kinds (one.0 i) (one.1 i)) ∙ sym is')
  one_refusal walked m budget f g (kinds at fault first written is) (field k at' t formed first' there type is') =
      absurd (refused m at fault first formed)
  one_refusal walked m budget f g (kinds at fault first written is) (equation h formed fields first' x) =
      absurd (refused m at fault first formed)
  one_refusal walked m budget f g (field k at t formed first there type is) (kinds at' fault first' written is') =
      absurd (refused m at' fault first' formed)
  one_refusal walked m budget f g (equation h formed fields first x) (kinds at' fault first' written is') =
      absurd (refused m at' fault first' formed)
  one_refusal walked m budget f g (field k at t formed first there type is) (field k' at' t' formed' first' there' type' is') =
      let numbers : k ≡ k' = one_field m budget k k' _ first first' in
      let places : at ≡ at' = same_Some at at' (sym there ∙ ap (slice_get m.places.items) numbers ∙ there') in
      let types : t ≡ t' = same_Some t t' (sym type ∙ ap (slice_get m.types.items) numbers ∙ type') in
      itself (is ∙ (λ i. NotPrintable (places i) (types i)) ∙ sym is')
  one_refusal walked m budget f g (field k at t formed first there type is) (equation h formed' fields first' x) =
      absurd (fields_refused m k first fields)
  one_refusal walked m budget f g (equation h formed fields first x) (field k at t formed' first' there type is) =
      absurd (fields_refused m k first' fields)
  one_refusal walked m budget f g (equation h formed fields first x) (equation h' formed' fields' first' y) =
      let same : h ≡ h' = one_of_first (λ (o : GlobalEntry). o.at) (IsGlobalAccepted m budget) m.globals.items h h'
      (accepted_apart m budget h f x) (accepted_apart m budget h' g y) first first' in
      let there = place_of first'.before first'.after h' in
      let is = subst (λ gs. slice_get gs there.0 ≡ Some h') (sym first'.stands) there.1 in
      one_global m budget formed there.0 h' is f g (subst (λ o. ShowsGlobal m budget o f) same x) y

  pub accepted_is_not_refused : AcceptedIsNotRefused
  accepted_is_not_refused m budget ds h f r =
      no_module m budget unique Each IsInSize (λ vars. IsKnown (check_over m budget vars))
      (λ vars. excludes (check_over m budget vars) outcomes found unique) f tt r ds h

  -- the questions of an accepted module are answered, and its types are within their size
  answered : (c : Check) (s t : Tree) → IsKnown c s t → IsAnswered c.surroundings.vars c.budget s t
  answered c s t k = record {
    conversion = k.conversion;
    decided = λ g pairs h. not_both c outcomes found 0 s t (Undecided 0 s t g pairs) k (undecided h);
    fits = λ h. not_both c outcomes found 0 s t (TooLarge 0) k (too_large h);
  }

  pub accepted_is_within : AcceptedIsWithin
  accepted_is_within m budget ds h =
      module_more m (checking_over m budget) (λ vars. within IsInSize (IsAnswered vars budget))
      (λ vars. within_more IsInSize IsInSize (IsKnown (check_over m budget vars)) (IsAnswered vars budget) (λ t k. k)
      (λ s t k. answered (check_over m budget vars) s t k)) ds h
