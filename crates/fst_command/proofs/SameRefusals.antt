-- What a check finds of a module, it finds of each that has the same parts.
use Rattle.std.proofs.Common.{◌≡◌, ◌∙◌, ◌⊎◌, inl, inr, ℕ, suc, ◌<◌, true, List, [], ◌∷◌, ◌++◌, map, length, slice_get, slice_index, Option, Some, None, refl, sym, ap, subst}
use Rattle.std.specs.Prelude.{codes}
use Rattle.std.specs.Str.{bytes_eq}
use Rattle.fst_types.specs.Tree.{Tree, plain, arrow}
use Rattle.fst_types.specs.Instance.{instantiated}
use Rattle.fst_types.specs.declared.base.Base.TheVariants.{Int, Bool as Truth}
use Rattle.fst_types.specs.declared.family.Family.{Family}
use Rattle.fst_types.specs.declared.kind.Kind.{Kind}
use Rattle.fst_kinds.specs.WellFormed.{IsInstantiation}
use Rattle.fst_terms.specs.CoreTree.{CoreTree, local, global, int, bool, char, unit, pair, make, lambda, apply, let_in, split, if_else, case_of, operate, negate, new, send, receive, close, wait, select, match_with, fork, seq, CoreList, no_terms, term, CoreArms, no_arms, arm}
use Rattle.fst_terms.specs.declared.binder.Binder.{Binder}
use Rattle.fst_terms.specs.declared.core_module.Module.{Module}
use Rattle.fst_terms.specs.declared.global.GlobalEntry.{GlobalEntry}
use Rattle.fst_arms.specs.Arms.{AreEachOnce, arm_labels}
use Rattle.fst_context.specs.Scope.{Scope, empty}
use Rattle.fst_derivations.specs.Deriv.{Deriv}
use Rattle.fst_derivations.specs.Parts.{AreAt}
use Rattle.fst_derivations.specs.Rules.{Binding}
use Rattle.fst_derivations.specs.Laws.{Weaker}
use Rattle.fst_derivations.specs.Modules.{types_in, family_types, IsFormedAt, IsPrintable, IsMain}
use Rattle.fst_written.specs.Faults.{IsFirstKindFault}
use Rattle.fst_written.specs.First.{AreBefore, IsFirst}
use Rattle.fst_written.specs.Printable.{IsFirstUnprintable, IsPrintableAt}
use Rattle.fst_written.specs.Readings.{closed_readings, global_readings, others, readings, standing_readings}
use Rattle.fst_premises.specs.Checks.{Check}
use Rattle.fst_premises.specs.Shown.{ShowsArguments, ShowsUse, ShowsNoCase, IsTooLargeAt, UseDifferent, place}
use Rattle.fst_premises.specs.Signs.{operand}
use Rattle.fst_premises.specs.declared.fault.CheckFault.{CheckFault}
use Rattle.fst_premises.specs.declared.fault.CheckFault.TheVariants.{NotPrintable, TypeArguments}
use Rattle.fst_typing.specs.Typed.{IsKnown, IsTyped, checking}
use Rattle.fst_typing.specs.Shown.{IsUnequal, shape, word, undecided, too_large, First, Under, Unless, NoMore, ShowsOperand, IsOperand, Shows, ShowsFields, ShowsArms, ShowsFurther}
use Rattle.fst_typing.specs.Equations.{LeavesUnused, ShowsResult, ShowsEquation}
use Rattle.fst_typing.specs.Checked.{checking_over, IsGlobalAccepted, IsNamedMain, ShowsGlobal, IsAccepted, IsRefusal, kinds, field, equation}
use Rattle.fst_names.specs.Modules.{Global, family_parts, global_parts}
use Rattle.fst_names.specs.ResolvedModule.{AreSame}
use Rattle.fst_command.proofs.SameParts.{all_along, maker_parts, same_cut, same_fold, same_maker, same_map, same_there}
use Rattle.fst_command.proofs.SameDerivations.{MainParts, SameBinding, same_fields, same_rest, around, binds_same, row_same, equation_same, same_global_types, same_family_types, types_formed, fields_printable, plain_one, plain_derivations_same}

-- ---- terms

module _ (fs gs : List Family) (xs ys : List GlobalEntry) (families : map family_parts fs ≡ map family_parts gs)
    (globals : map global_parts xs ≡ map global_parts ys)
    (types : List Tree) (vars : List Kind) (places : List ℕ) (budget : ℕ) where
  abbrev C : Check
  C = record { surroundings = around fs xs types vars; places = places; budget = budget }

  abbrev D : Check
  D = record { surroundings = around gs ys types vars; places = places; budget = budget }

  known_same : (s t : Tree) → IsKnown C s t → IsKnown D s t
  known_same s t h = record { conversion = h.conversion; yes = h.yes }

  weaker : Weaker (checking C) (checking D)
  weaker = record { kept = λ d c h. h; compared = λ d c h. ((h.0.0, known_same _ h.0.0 h.0.1, h.0.2), h.1); bound = λ t h. h }

  typed_same : (e : CoreTree) (s z : Scope) (d : Deriv) → IsTyped C s z e d → IsTyped D s z e d
  typed_same e s z d h = record {
    used = h.used;
    fact = record {
      rule = row_same fs gs xs ys families globals types vars (checking C)
          (checking D) weaker e s.variables h.used d h.fact.rule;
      formed = h.fact.formed;
      small = h.fact.small;
    };
    within = h.within;
    rest = h.rest;
  }

  unequal_same : (at : ℕ) (s t : Tree) (f : CheckFault) → IsUnequal C at s t f → IsUnequal D at s t f
  unequal_same at s t _ (shape h) = shape h
  unequal_same at s t _ (word h) = word h
  unequal_same at s t _ (undecided h) = undecided h
  unequal_same at s t _ (too_large h) = too_large h

  first_same : (e : CoreTree) (s : Scope) (R Q : Type 0) (P O : Scope → Tree → Type 0) → (R → Q) →
      ((z : Scope) (t : Tree) → P z t → O z t) → First C e s R P → First D e s Q O
  first_same e s R Q P O f g (inl h) = inl (f h)
  first_same e s R Q P O f g (inr h) = inr (record {
    scope = h.scope;
    derivation = h.derivation;
    typed = typed_same e s h.scope h.derivation h.typed;
    then =
        g h.scope _ h.then;
  })

  under_same : (xs : List Binder) (ts : List Tree) (e : CoreTree) (s : Scope) (R Q : Scope → Type 0) (P O : Scope → Tree → Type 0)
      (f : CheckFault) →
      ((z : Scope) → R z → Q z) → ((z : Scope) (t : Tree) → P z t → O z t) → Under C xs ts e s R P f → Under D xs ts e s Q O f
  under_same xs ts e s R Q P O f g h x = record {
    variables = x.variables;
    small = x.small;
    types = x.types;
    long = x.long;
    inside = first_same e _ _ _ _ _ (g _) (λ z t y. elim y [ inl a ↦ inl a | inr a ↦ inr (a.0, h _ t a.1) ]) x.inside;
  }

  unless_same : (at : ℕ) (s t : Tree) (f : CheckFault) (P O : Type 0) → (P → O) → Unless C at s t f P → Unless D at s t f O
  unless_same at s t f P O g (inl h) = inl (unequal_same at s t f h)
  unless_same at s t f P O g (inr h) = inr (known_same s t h.0, g h.1)

  shows_operand : (o : Option Tree) (at : ℕ) (s : Tree) (f : CheckFault) → ShowsOperand C o at s f → ShowsOperand D o at s f
  shows_operand (Some t) at s f h = unequal_same at s t f h
  shows_operand None at s f h = (h.0, unequal_same at s (plain Int) f h.1)

  is_operand : (o : Option Tree) (s t : Tree) → IsOperand C o s t → IsOperand D o s t
  is_operand (Some r) s t h = (known_same s r h.0, h.1)
  is_operand None s t h = h

  shows_arguments : (ks : List ℕ) (vs : List Kind) (f : CheckFault) → ShowsArguments C ks vs f → ShowsArguments D ks vs f
  shows_arguments [] vs f h = h
  shows_arguments (k ∷ ks) [] f h = h
  shows_arguments (k ∷ ks) (v ∷ vs) f (t, j, i, w, inl h) = (t, j, i, w, inl h)
  shows_arguments (k ∷ ks) (v ∷ vs) f (t, j, i, w, inr h) = (t, j, i, w, inr (h.0, shows_arguments ks vs f h.1))

  -- what a use of a global shows of its parts
  abbrev UseOf : Check → ℕ → List ℕ → CheckFault → Global → Type 0
  UseOf c at ks f z =
      ((length ks ≡ length z.its_kinds → ⊥) × (f ≡ TypeArguments at (length ks) (length z.its_kinds)))
      ⊎ (((length ks ≡ length z.its_kinds) × ShowsArguments c ks z.its_kinds f)
      ⊎ ((t : Tree) × (args : List Tree) × (slice_get types z.signature ≡ Some t) × AreAt types ks args ×
      IsInstantiation vars z.its_kinds args × IsTooLargeAt at (instantiated args t) f))

  shows_use : (at k : ℕ) (ks : List ℕ) (f : CheckFault) → ShowsUse C at k ks f → ShowsUse D at k ks f
  shows_use at k ks f (g, i, h) =
      let y = same_there global_parts xs ys globals k g i in
      (y.0, y.1, subst (UseOf D at ks f) (sym y.2) (by h))
    where
      by : UseOf C at ks f (global_parts g) → UseOf D at ks f (global_parts g)
      by (inl a) = inl a
      by (inr (inl a)) = inr (inl (a.0, shows_arguments ks g.kinds.items f a.1))
      by (inr (inr a)) = inr (inr a)

  no_case : (at : ℕ) (t : Tree) (found : List (List ℕ)) (f : CheckFault) → ShowsNoCase fs at t found f →
      ShowsNoCase gs at t found f
  no_case at t found f h = (
    λ n g e i once.
        let y = same_there family_parts gs fs (sym families) n g i in
        let names = same_map maker_parts (λ z. z.0) g.makers.items y.0.makers.items (sym (ap (λ z. z.1) y.2)) in
        h.0 n y.0 e y.1 (subst (λ z. AreEachOnce z found) names once),
    h.1,
  )

  -- what a further arm shows behind its term
  abbrev Then : Check → Binding → CoreArms → CoreTree → Scope → Scope → Tree → CheckFault → Scope → Tree → Type 0
  Then c B bs e s r t f z u = UseDifferent (place e) r z f ⊎ ((z ≡ r) × Unless c (place e) u t f (ShowsFurther c B bs s r t f))

  mutual
    shows_same : (e : CoreTree) (s : Scope) (f : CheckFault) → Shows C e s f → Shows D e s f
    shows_same (local at k) s f h = h
    shows_same (global at k ks) s f h = shows_use at k ks f h
    shows_same (int at k) s f h = h
    shows_same (bool at b) s f h = h
    shows_same (char at k) s f h = h
    shows_same (unit at) s f h = h
    shows_same (pair at a b) s f h = first_same a s _ _ _ _ (shows_same a s f)
        (λ r t. first_same b r _ _ _ _ (shows_same b r f) (λ z u x. x)) h
    shows_same (make at n k es) s f (o, ts, i, a, h) =
        let y = same_maker fs gs families n k o i in
        (y.0, ts, y.1, subst (λ z. AreAt types z ts) (sym (ap (λ z. z.1) y.2)) a, fields_same es ts s f h)
    shows_same (lambda at uses k x e) s f (t, i, inl h) = (t, i, inl h)
    shows_same (lambda at uses k x e) s f (t, i, inr h) = (
      t,
      i,
      inr (under_same (x ∷ []) (t ∷ []) e _ _ _ (λ z u. IsTooLargeAt at (arrow uses t u) f)
          (λ z u. IsTooLargeAt at (arrow uses t u) f) f (λ z. shows_same e z f) (λ z u y. y) h),
    )
    shows_same (apply at a b) s f h = first_same a s _ _ _ _ (shows_same a s f) (λ r t x. elim x [
      | inl y ↦ inl y
      | inr (n, from, to, e, y) ↦ inr (
        n,
        from,
        to,
        e,
        first_same b r _ _ _ _ (shows_same b r f)
            (λ z u. unequal_same (place b) u from f) y,
      )
    ]) h
    shows_same (let_in at x a b) s f h = first_same a s _ _ _ _ (shows_same a s f)
        (λ r t. under_same (x ∷ []) (t ∷ []) b r _ _ NoMore NoMore f (λ z. shows_same b z f) (λ z u y. y)) h
    shows_same (split at x z a b) s f h = first_same a s _ _ _ _ (shows_same a s f) (λ r t y. elim y [
      | inl w ↦ inl w
      | inr (u, v, e, w) ↦ inr (
        u,
        v,
        e,
        under_same (x ∷ z ∷ []) (u ∷ v ∷ []) b r _ _ NoMore NoMore f (λ q. shows_same b q f)
            (λ q o i. i) w,
      )
    ]) h
    shows_same (if_else at a b o) s f h = first_same a s _ _ _ _ (shows_same a s f)
        (λ r t. unless_same (place a) t (plain Truth) f _ _
        (first_same b r _ _ _ _ (shows_same b r f) (λ z u. first_same o r _ _ _ _ (shows_same o r f) (λ y v x. elim x [
          | inl w ↦ inl w
          | inr w ↦ inr (w.0, unequal_same (place o) v u f w.1)
        ])))) h
    shows_same (case_of at a bs) s f h = first_same a s _ _ _ _ (shows_same a s f) (λ r t x. elim x [
      | inl y ↦ inl (no_case at t (arm_labels bs) f y)
      | inr (n, g, e, i, once, y) ↦
          let g' = same_there family_parts fs gs families n g i in
          let makers = sym (ap (λ z. z.1) g'.2) in
          inr (
            n,
            g'.0,
            e,
            g'.1,
            subst (λ z. AreEachOnce z (arm_labels bs))
                (same_map maker_parts (λ z. z.0) g.makers.items g'.0.makers.items makers) once,
            arms_same _ _ (same_fields makers) bs r f y,
          )
    ]) h
    shows_same (operate at o a b) s f h = first_same a s _ _ _ _ (shows_same a s f) (λ r t x. elim x [
      | inl y ↦ inl (shows_operand (operand o) (place a) t f y)
      | inr (wanted, i, y) ↦ inr (
        wanted,
        is_operand (operand o) t wanted i,
        first_same b r _ _ _ _ (shows_same b r f)
            (λ z u. unequal_same (place b) u wanted f) y,
      )
    ]) h
    shows_same (negate at a) s f h = first_same a s _ _ _ _ (shows_same a s f) (λ r t. unequal_same (place a) t (plain Truth) f) h
    shows_same (new at k) s f h = h
    shows_same (send at a b) s f h = first_same a s _ _ _ _ (shows_same a s f)
        (λ r t. first_same b r _ _ _ _ (shows_same b r f) (λ z u x. x)) h
    shows_same (receive at a) s f h = first_same a s _ _ _ _ (shows_same a s f) (λ r t x. x) h
    shows_same (close at a) s f h = first_same a s _ _ _ _ (shows_same a s f) (λ r t x. x) h
    shows_same (wait at a) s f h = first_same a s _ _ _ _ (shows_same a s f) (λ r t x. x) h
    shows_same (select at l a) s f h = first_same a s _ _ _ _ (shows_same a s f) (λ r t x. x) h
    shows_same (match_with at a bs) s f h = first_same a s _ _ _ _ (shows_same a s f) (λ r t x. elim x [
      | inl y ↦ inl y
      | inr (ls, i, once, y) ↦ inr (ls, i, once, arms_same _ _ same_rest bs r f y)
    ]) h
    shows_same (fork at a) s f h = first_same a s _ _ _ _ (shows_same a s f) (λ r t x. x) h
    shows_same (seq at a b) s f h = first_same a s _ _ _ _ (shows_same a s f) (λ r t x. elim x [
      | inl y ↦ inl y
      | inr y ↦ inr (y.0, shows_same b r f y.1)
    ]) h

    fields_same : (es : CoreList) (ts : List Tree) (s : Scope) (f : CheckFault) → ShowsFields C es ts s f →
        ShowsFields D es ts s f
    fields_same no_terms ts s f h = h
    fields_same (term e es) [] s f h = h
    fields_same (term e es) (t ∷ ts) s f h = first_same e s _ _ _ _ (shows_same e s f)
        (λ r u. unless_same (place e) u t f _ _ (fields_same es ts r f)) h

    arms_same : (B E : Binding) → SameBinding B E →
        (bs : CoreArms) (s : Scope) (f : CheckFault) → ShowsArms C B bs s f → ShowsArms D E bs s f
    arms_same B E b no_arms s f h = h
    arms_same B E b (arm l zs e bs) s f (ts, i, inl h) =
        (ts, binds_same fs gs xs ys families globals types vars B E b l ts i, inl h)
    arms_same B E b (arm l zs e bs) s f (ts, i, inr h) = (
      ts,
      binds_same fs gs xs ys families globals types vars B E b l ts i,
      inr (under_same zs ts e s _ _ (λ z t. ShowsFurther C B bs s z t f) (λ z t. ShowsFurther D E bs s z t f) f
          (λ z. shows_same e z f) (λ z t. further_same B E b bs s z t f) h),
    )

    further_same : (B E : Binding) → SameBinding B E →
        (bs : CoreArms) (s r : Scope) (t : Tree) (f : CheckFault) → ShowsFurther C B bs s r t f → ShowsFurther D E bs s r t f
    further_same B E b no_arms s r t f h = h
    further_same B E b (arm l zs e bs) s r t f (ts, i, inl h) =
        (ts, binds_same fs gs xs ys families globals types vars B E b l ts i, inl h)
    further_same B E b (arm l zs e bs) s r t f (ts, i, inr h) = (
      ts,
      binds_same fs gs xs ys families globals types vars B E b l ts i,
      inr (under_same zs ts e s _ _ (Then C B bs e s r t f) (Then D E bs e s r t f) f (λ z. shows_same e z f) (λ z u x. elim x [
        | inl y ↦ inl y
        | inr y ↦ inr (y.0, unless_same (place e) u t f _ _ (further_same B E b bs s r t f) y.1)
      ]) h),
    )

  result_same : (e : CoreTree) (t : Tree) (s : Scope) (f : CheckFault) → ShowsResult C e t s f → ShowsResult D e t s f
  result_same e t s f h = first_same e s _ _ _ _ (shows_same e s f) (λ z u. unequal_same (place e) u t f) h

  unused_same : (x : Binder) (t : Tree) (s : Scope) (e : CoreTree) (f : CheckFault) → LeavesUnused C x t s e f →
      LeavesUnused D x t s e f
  unused_same x t s e f h = record {
    scope = h.scope;
    derivation = h.derivation;
    typed = record {
      used = h.typed.used;
      fact = equation_same fs gs xs ys families globals types vars (checking C) (checking D) weaker h.typed.fact;
      within = h.typed.within;
      rest = h.typed.rest;
    };
    unused = h.unused;
  }

  -- why an equation is refused
  pub refused_same : {e : CoreTree} {t : Tree} {s : Scope} {f : CheckFault} → ShowsEquation C e t s f → ShowsEquation D e t s f
  refused_same (ShowsEquation.large p l) = ShowsEquation.large p l
  refused_same (ShowsEquation.inner p small has h) = ShowsEquation.inner p small has (refused_same h)
  refused_same {f = f} (ShowsEquation.unused {x = x} {e = e} p small has h) =
      ShowsEquation.unused p small has (unused_same x p.to _ e f h)
  refused_same {e} {t} {s} {f} (ShowsEquation.result none h) = ShowsEquation.result none (result_same e t s f h)

-- ---- types in order of text

same_standing : (gs hs : List GlobalEntry) → map global_parts gs ≡ map global_parts hs → global_readings gs ≡ global_readings hs
same_standing =
    same_fold global_parts global_readings (λ g l.
    record { number = g.signature; vars = g.kinds.items } ∷ (standing_readings g.kinds.items (types_in g.body) ++ l))
    (λ g gs. refl)
    (λ g h e l. λ i. record { number = (e i).signature; vars = (e i).its_kinds }
    ∷ (standing_readings (e i).its_kinds (types_in (e i).body) ++ l))

-- the first, by numbers that are the same
first_along : {A : Type 0} (b c : A → ℕ) (P Q : A → Type 0) (xs ys : List A) → ((x : A) → b x ≡ c x) →
    ((x : A) → P x → Q x) → xs ≡ ys → (x : A) → IsFirst b P xs x → IsFirst c Q ys x
first_along {A = A} b c P Q xs ys same step list x h = record {
  before = h.before;
  after = h.after;
  stands = sym list ∙ h.stands;
  earlier = before_along _ _ h.before (ap suc (same x)) h.earlier;
  later = before_along _ _ h.after (same x) h.later;
}
  where
    before_along : (k l : ℕ) (zs : List A) → k ≡ l → AreBefore b P k zs → AreBefore c Q l zs
    before_along k l [] e h = tt
    before_along k l (z ∷ zs) e h = (
      λ less. step z (h.0 (subst (λ n. b z < n) (sym e) (subst (λ n. n < l) (sym (same z)) less))),
      before_along k l zs e h.1,
    )

module _ (m n : Module) (s : AreSame m n) where
  same_readings : readings m ≡ readings n
  same_readings =
      let globals = same_global_types m.globals.items n.globals.items s.globals in
      let families = same_family_types m.families.items n.families.items s.families in
      λ i. same_standing m.globals.items n.globals.items s.globals i ++ (closed_readings (families i) ++
      closed_readings (others (globals i ++ families i) (length (s.types i))))

  kind_fault_same : (at : ℕ) (fault : _) → IsFirstKindFault m (readings m) at fault → IsFirstKindFault n (readings n) at fault
  kind_fault_same at fault h = record {
    reading = h.reading;
    first = first_along _ _ _ _ (readings m) (readings n) (λ r. ap (λ ps. slice_index ps r.number) s.places)
        (λ r x. subst (λ ts. IsFormedAt ts r.vars r.number) s.types x) same_readings h.reading h.first;
    fails = record {
      type = h.fails.type;
      is = ap (λ ts. slice_get ts h.reading.number) (sym s.types) ∙ h.fails.is;
      begins = ap (λ ps. slice_get ps h.reading.number) (sym s.places) ∙ h.fails.begins;
      unformed = h.fails.unformed;
      fails = h.fails.fails;
    };
  }

  unprintable_same : (k : ℕ) → IsFirstUnprintable m (family_types m.families.items) k →
      IsFirstUnprintable n (family_types n.families.items) k
  unprintable_same k h = record {
    first = first_along _ _ _ _ (family_types m.families.items) (family_types n.families.items)
        (λ j. ap (λ ps. slice_index ps j) s.places) (λ j x. subst (λ ts. IsPrintableAt ts j) s.types x)
        (same_family_types m.families.items n.families.items s.families) k h.first;
    type = h.type;
    is = ap (λ ts. slice_get ts k) (sym s.types) ∙ h.is;
    unprintable = h.unprintable;
  }

  -- ---- globals

  main_one : (g h : GlobalEntry) → global_parts g ≡ global_parts h →
      (IsNamedMain g → IsMain m.types.items g) → IsNamedMain h → IsMain n.types.items h
  main_one g h e x = subst (MainParts n.types.items) e (subst (λ types. MainParts types (global_parts g)) s.types x)

  checks_same : (budget : ℕ) (vars : List Kind) → Weaker (checking_over m budget vars) (checking_over n budget vars)
  checks_same budget vars = record {
    kept = λ d c h. h;
    compared =
        λ d c h. ((h.0.0, record { conversion = h.0.1.conversion; yes = h.0.1.yes }, h.0.2), h.1);
    bound = λ t h. h;
  }

  global_accepted : (budget : ℕ) (g h : GlobalEntry) → global_parts g ≡ global_parts h → IsGlobalAccepted m budget g →
      IsGlobalAccepted n budget h
  global_accepted budget g h e x = record {
    main = main_one g h e x.main;
    derivation = x.derivation;
    derived = plain_one m n s (checking_over m budget) (checking_over n budget) (checks_same budget) g h e x.derivation x.derived;
  }

  all_before : (budget at : ℕ) (gs hs : List GlobalEntry) → map global_parts gs ≡ map global_parts hs → AreBefore
      (λ (g : GlobalEntry). g.at) (IsGlobalAccepted m budget) at gs → AreBefore
      (λ (g : GlobalEntry). g.at) (IsGlobalAccepted n budget) at hs
  all_before budget at =
      all_along global_parts (AreBefore (λ (g : GlobalEntry). g.at) (IsGlobalAccepted m budget) at)
      (AreBefore (λ (g : GlobalEntry). g.at) (IsGlobalAccepted n budget) at)
      (λ g. g.at < at → IsGlobalAccepted m budget g) (λ g. g.at < at → IsGlobalAccepted n budget g) tt (λ g gs h. h)
      (λ g gs h i. (h, i))
      (λ g h e accepted less. global_accepted budget g h e (accepted (subst (λ (z : Global). z.at < at) (sym e) less)))

  -- what a global shows, by its parts
  abbrev MainShows : List Tree → CheckFault → Global → Type 0
  MainShows types f z =
      ((z.its_kinds ≡ [] → ⊥) × (f ≡ TypeArguments z.signature_at (length z.its_kinds) 0))
      ⊎ ((z.its_kinds ≡ []) × ((t : Tree) × (slice_get types z.signature ≡ Some t) × (IsPrintable t → ⊥) ×
      (f ≡ NotPrintable z.signature_at t)))

  abbrev PartsShow : List Tree → List ℕ → ℕ → CheckFault → Global → Type 0
  PartsShow types places budget f z = (t : Tree) × (slice_get types z.signature ≡ Some t) ×
      ShowsEquation (record {
        surroundings = around n.families.items n.globals.items types z.its_kinds;
        places = places;
        budget =
            budget;
      }) z.body t empty f

  global_shows : (budget : ℕ) (g h : GlobalEntry) (f : CheckFault) → global_parts g ≡ global_parts h → ShowsGlobal m budget g f →
      ShowsGlobal n budget h f
  global_shows budget g h f e (inl x) =
      inl (subst (λ (z : Global). (bytes_eq z.name (codes "main") ≡ true) × MainShows n.types.items f z) e
      (x.0, subst (λ types. MainShows types f (global_parts g)) s.types x.1))
  global_shows budget g h f e (inr (main, (t, i, x))) =
      let moved = refused_same m.families.items n.families.items m.globals.items n.globals.items s.families s.globals
      m.types.items g.kinds.items m.places.items budget x in
      let typed = subst (λ types. PartsShow types m.places.items budget f (global_parts g)) s.types (t, i, moved) in
      let placed = subst (λ places. PartsShow n.types.items places budget f (global_parts g)) s.places typed in
      inr (main_one g h e main, subst (PartsShow n.types.items n.places.items budget f) e placed)

  -- ---- modules

  pub accepted_module : (budget : ℕ) (ds : List Deriv) → IsAccepted m budget ds → IsAccepted n budget ds
  accepted_module budget ds h = plain_derivations_same m n s (checking_over m budget) (checking_over n budget)
      (checks_same budget) ds h

  pub refused_module : (budget : ℕ) (f : CheckFault) → IsRefusal m budget f → IsRefusal n budget f
  refused_module budget f (kinds at fault h w e) = kinds at fault (kind_fault_same at fault h) w e
  refused_module budget f (field k at t formed h place type e) =
      field k at t (types_formed m n s formed) (unprintable_same k h) (ap (λ ps. slice_get ps k) (sym s.places) ∙ place)
      (ap (λ ts. slice_get ts k) (sym s.types) ∙ type) e
  refused_module budget f (equation g formed printable h shows) =
      let c = same_cut global_parts h.before g h.after n.globals.items (ap (map global_parts) (sym h.stands) ∙ s.globals) in
      equation c.item (types_formed m n s formed) (fields_printable m n s printable)
      (record {
        before = c.front;
        after = c.rest;
        stands = c.stands;
        earlier = subst (λ (z : Global). AreBefore (λ (g : GlobalEntry). g.at) (IsGlobalAccepted n budget) (suc z.at) c.front)
            c.items (all_before budget (suc g.at) h.before c.front c.fronts h.earlier);
        later = subst (λ (z : Global). AreBefore (λ (g : GlobalEntry). g.at) (IsGlobalAccepted n budget) z.at c.rest) c.items
            (all_before budget g.at h.after c.rest c.rests h.later);
      })
      (global_shows budget g c.item f c.items shows)
