-- Where a refusal is shown of a term, the term has no plain derivation.
use Rattle.std.proofs.Common.{◌≡◌, ◌∙◌, ◌⊎◌, ◌<◌, ◌+◌, ◌&&◌, inl, inr, ℕ, zero, suc, Bool, true, false, not, List, [], ◌∷◌, Some, length, map, slice_get, refl, sym, ap, subst, arith}
use Rattle.std.specs.Prelude.{cond}
use Rattle.std.specs.List.{AllByRecursion}
use Rattle.std.proofs.lemmas.Option.{same_Some}
use Rattle.fst_base.proofs.Bools.{never_both}
use Rattle.fst_types.specs.Tree as type
use Rattle.fst_types.specs.Tree.{Tree, plain, arrow, named}
use Rattle.fst_types.specs.declared.base.Base.TheVariants.{Int, Bool as Truth, Char}
use Rattle.fst_types.specs.declared.base.Base.{Base}
use Rattle.fst_types.specs.declared.family.Family.{Family}
use Rattle.fst_types.specs.declared.kind.Kind.{Kind}
use Rattle.fst_types.specs.declared.kind.Use.{Use}
use Rattle.fst_types.specs.declared.kind.Use.TheVariants.{Many, Once}
use Rattle.fst_types.specs.declared.label.Label.TheVariants.{Send, Receive, Offer}
use Rattle.fst_kinds.specs.Kinds.{session, subkind}
use Rattle.fst_kinds.specs.WellFormed.{IsInstantiation, IsWellFormed}
use Rattle.fst_kinds.proofs.Laws.{one_kind}
use Rattle.fst_lts.specs.Step.{step}
use Rattle.fst_lts.specs.Dual.{dual}
use Rattle.fst_types.specs.Instance.{instantiated}
use Rattle.fst_terms.specs.declared.global.GlobalEntry.{GlobalEntry}
use Rattle.fst_terms.specs.CoreTree.{CoreTree, local, global, int, bool, char, unit, pair, make, lambda, apply, let_in, split, if_else, case_of, operate, negate, new, send, receive, close, wait, select, match_with, fork, seq, CoreList, no_terms, term, CoreArms, no_arms, arm}
use Rattle.fst_terms.specs.declared.binder.Binder.{Binder}
use Rattle.fst_terms.specs.declared.term.Op.{Op}
use Rattle.fst_terms.specs.declared.term.Op.TheVariants.{Add, Subtract, Multiply, Equal, Unequal, Less, AtMost, Greater, AtLeast, And, Or}
use Rattle.fst_context.specs.Scope.{Scope, Variable, is_once, at_or_not, linear_at, is_inside, more, entered, open_in, without, IsWithin}
use Rattle.fst_context.specs.Vars.{Vars, no_vars, under, single}
use Rattle.fst_context.proofs.Laws.{at-mark, within_left, within_right, within_entered, linear_of, single_at}
use Rattle.fst_context.specs.View.{taken_at}
use Rattle.fst_context.specs.declared.context.Taken.TheVariants.{Here, Gone, Outside}
use Rattle.fst_arms.specs.Arms.{AreEachOnce, arm_labels}
use Rattle.fst_derivations.specs.Deriv.{Deriv, type_of, Derivs}
use Rattle.fst_derivations.specs.Parts.{HasUse, IsConversion, AreAt, AreVariables, enter_all, under_all, IsOffering, IsComparable}
use Rattle.fst_derivations.specs.Rules.{Surroundings, Mode, Row, comparing, within, Over, At, Operates, Binding, fields, rest, Fields, Arms, FurtherArms, PlainRow}
use Rattle.fst_derivations.specs.Laws.{PlainTypesAreUnique}
use Rattle.fst_derivations.proofs.Laws.{same_at, same_variables, one_bound, one_step, outside_all, weaker, within_compares}
use Rattle.fst_premises.specs.Checks.{Check, IsInSize}
use Rattle.fst_premises.specs.Scopes.{entered_all, inside, left_all, AreUsed}
use Rattle.fst_premises.specs.Shown.{IsTooLargeAt, IsLargeBinder, ShowsArguments, ShowsUnused, ShowsNoFunction, ShowsNoPair, ShowsNoCase, ShowsNoMatch, ShowsDropped, ShowsSend, ShowsReceive, ShowsSelect, UseDifferent, place}
use Rattle.fst_premises.specs.Signs.{operand}
use Rattle.fst_premises.specs.declared.fault.CheckFault.{CheckFault}
use Rattle.fst_premises.specs.declared.fault.CheckFault.TheVariants.{UsedTwice, CapturedLinear}
use Rattle.fst_typing.specs.Typed.{IsKnown, IsTypedUnder, checking}
use Rattle.fst_typing.specs.Shown.{Shows, ShowsFields, ShowsArms, ShowsFurther, ShowsOperand, IsOperand, IsUnequal, After, First, Under, Unless, NoMore}
use Rattle.fst_typing.proofs.Under.{entered_variables, takes_under}
use Rattle.fst_instances.proofs.Laws.{equal_back, equal_base_type}

-- ---- sets of variables that can be taken

within_all : (xs : List Binder) (vs : List Variable) (s : Scope) (u : Vars) → length xs ≡ length vs → IsWithin u s →
    IsWithin (under_all vs u) (entered_all xs vs s)
within_all [] [] s u e w = w
within_all [] (v ∷ vs) s u e w = absurd (omega (arith, e))
within_all (x ∷ xs) [] s u e w = absurd (omega (arith, e))
within_all (x ∷ xs) (v ∷ vs) s u e w = within_all xs vs (entered x.name v s) (under (is_once v.uses) u) (omega (arith, e))
    (within_entered x.name v s u w)

-- the innermost n variables are there just where they are in the set
abbrev Fits : ℕ → Vars → Scope → Type 0
Fits n u s = (k : ℕ) → k < n → at_or_not s.there k ≡ u k

fits_entered : (n : ℕ) (x : List ℕ) (v : Variable) (s : Scope) (u : Vars) → Fits n u s →
    Fits (suc n) (under (is_once v.uses) u) (entered x v s)
fits_entered n x v s u f zero l = refl
fits_entered n x v s u f (suc k) l = f k (omega (arith, l))

fits_all : (n : ℕ) (xs : List Binder) (vs : List Variable) (s : Scope) (u : Vars) → length xs ≡ length vs → Fits n u s →
    Fits (length xs + n) (under_all vs u) (entered_all xs vs s)
fits_all n [] [] s u e f = λ k l. f k (omega (arith, l))
fits_all n [] (v ∷ vs) s u e f = absurd (omega (arith, e))
fits_all n (x ∷ xs) [] s u e f = absurd (omega (arith, e))
fits_all n (x ∷ xs) (v ∷ vs) s u e f = λ k l. fits_all (suc n) xs vs (entered x.name v s) (under (is_once v.uses) u)
    (omega (arith, e)) (fits_entered n x.name v s u f) k (omega (arith, l))

-- what is in the set isn't there after it was taken
gone : (n : ℕ) (u : Vars) (s : Scope) → Fits n u s → (k : ℕ) → k < n → at_or_not (without u s).there k ≡ false
gone n u s f k l = at-mark u s.there k ∙ ap (λ b. b && not (u k)) (f k l) ∙ never_both (u k)

no_unused : (n : ℕ) (xs : List Binder) (z : Scope) (f : CheckFault) →
    ((k : ℕ) → k < n → at_or_not z.there k ≡ false) → length xs < n + 1 → ShowsUnused z xs f → ⊥
no_unused n [] z f g l x = x
no_unused n (x ∷ xs) z f g l (inl y) = cc (y.there, g (length xs) (omega (arith, l)))
no_unused n (x ∷ xs) z f g l (inr y) = no_unused n xs z f g (omega (arith, l)) y.1

never_gone : (l t i : Bool) → cond l (cond t (cond i Here Outside) Gone) Here ≡ Gone → (l ≡ true → (t && i) ≡ true) → ⊥
never_gone true true true e h = cc e
never_gone true true false e h = cc e
never_gone true false i e h = cc (h refl)
never_gone false t i e h = cc e

never_outside : (l t i : Bool) → cond l (cond t (cond i Here Outside) Gone) Here ≡ Outside → (l ≡ true → (t && i) ≡ true) → ⊥
never_outside true true true e h = cc e
never_outside true true false e h = cc (h refl)
never_outside true false i e h = cc e
never_outside false t i e h = cc e

pub same_offers : (ls ks : List (List ℕ)) → map Offer ls ≡ map Offer ks → ls ≡ ks
same_offers [] [] e = refl
same_offers [] (k ∷ ks) e = absurd (cc e)
same_offers (l ∷ ls) [] e = absurd (cc e)
same_offers (l ∷ ls) (k ∷ ks) e = let first : l ≡ k = cc in let more : map Offer ls ≡ map Offer ks = cc in let others =
    same_offers ls ks more in λ i. first i ∷ others i

pub below_once : (u : Use) → subkind (session u) (session Once) ≡ true
below_once Many = refl
below_once Once = refl

pub counts : (vars : List Kind) (types : List Tree) (ks : List ℕ) (vs : List Kind) (ts : List Tree) → AreAt types ks ts →
    IsInstantiation vars vs ts → length ks ≡ length vs
counts vars types [] [] [] a i = refl
counts vars types [] [] (t ∷ ts) a i = absurd a
counts vars types [] (v ∷ vs) [] a i = absurd i
counts vars types [] (v ∷ vs) (t ∷ ts) a i = absurd a
counts vars types (k ∷ ks) vs [] a i = absurd a
counts vars types (k ∷ ks) [] (t ∷ ts) a i = absurd i
counts vars types (k ∷ ks) (v ∷ vs) (t ∷ ts) a i = ap suc (counts vars types ks vs ts a.1 i.1)

pub no_arguments : (c : Check) (ks : List ℕ) (vs : List Kind) (ts : List Tree) (f : CheckFault) →
    AreAt c.surroundings.types ks ts → IsInstantiation c.surroundings.vars vs ts → ShowsArguments c ks vs f → ⊥
no_arguments c [] vs ts f a i x = x
no_arguments c (k ∷ ks) [] ts f a i x = x
no_arguments c (k ∷ ks) (v ∷ vs) [] f a i x = a
no_arguments c (k ∷ ks) (v ∷ vs) (t ∷ ts) f a i (t', j, there, formed, inl x) =
    let types : t' ≡ t = same_Some t' t (sym there ∙ a.0) in
    let kinds : j ≡ i.0.kind = one_kind c.surroundings.vars t j i.0.kind
    (subst (λ z. IsWellFormed c.surroundings.vars z j) types formed).kinded i.0.well_formed.kinded in
    cc (sym x.0 ∙ ap (λ z. subkind z v) kinds ∙ i.0.below)
no_arguments c (k ∷ ks) (v ∷ vs) (t ∷ ts) f a i (t', j, there, formed, inr x) = no_arguments c ks vs ts f a.1 i.1 x.1

-- where the body of a function is looked at, a set that can be taken still can
pub within_inside : (uses : Use) (u : Vars) (s : Scope) → (uses ≡ Many → u ≡ no_vars) → IsWithin u s → IsWithin u (inside uses s)
within_inside Many u s none w = λ j h. absurd (cc (h, ap (λ z. z j) (none refl)))
within_inside Once u s none w = w

module _ (c : Check) (unique : PlainTypesAreUnique) where
  abbrev M : Surroundings
  M = c.surroundings

  abbrev V : List Kind
  V = c.surroundings.vars

  -- two equal types
  abbrev F : Tree → Tree → Type 0
  F = IsConversion V

  -- what was found of a part that has a plain derivation too: the same type, and the same variables are taken
  pub after_is : (L : Tree → Type 0) (E : Tree → Tree → Type 0) → ((s t : Tree) → E s t → F s t) →
      (s : Scope) (a : CoreTree) (P : Scope → Tree → Type 0) → After c s a P →
      (v : Vars) (d : Deriv) → Row M (within L E) a s.variables v d → P (without v s) (type_of d)
  after_is L E equal s a P x v d r =
      let y = x.typed in
      let found = weaker M (checking c) (comparing F)
      (within_compares IsInSize (IsKnown c) F (λ p q k. k.conversion)) a s.variables y.used x.derivation y.fact.rule in
      let row = weaker M (within L E) (comparing F) (within_compares L E F equal) a s.variables v d r in
      let one = unique M a s.variables y.used v x.derivation d found row in
      subst (λ z. P z (type_of d)) (y.rest ∙ ap (λ z. without z s) one.1) (subst (P x.scope) one.0 x.then)

  -- the same under names that are all used
  pub behind_is : (L : Tree → Type 0) (E : Tree → Tree → Type 0) → ((s t : Tree) → E s t → F s t) →
      (xs : List Binder) (ts : List Tree) (ws : List Variable) (e : CoreTree) (s z : Scope) (h : Deriv)
      (y : IsTypedUnder c xs ts s z e h) →
      y.variables ≡ ws → (u : Vars) (d : Deriv) → Row M (within L E) e (enter_all ws s.variables) (under_all ws u) d →
      (type_of h ≡ type_of d) × (z ≡ without u s)
  behind_is L E equal xs ts ws e s z h y alike u d r =
      let t = takes_under c xs ts s z e h y in
      let found = weaker M (checking c) (comparing F) (within_compares IsInSize (IsKnown c) F (λ p q k. k.conversion)) e
      (enter_all y.variables s.variables) (under_all y.variables t.used) h t.fact.rule in
      let found' = subst (λ v. PlainRow M F e (enter_all v s.variables) (under_all v t.used) h) alike found in
      let row = weaker M (within L E) (comparing F) (within_compares L E F equal) e (enter_all ws s.variables)
      (under_all ws u) d r in
      let one = unique M e (enter_all ws s.variables) (under_all ws t.used) (under_all ws u) h d found' row in
      (one.0, t.rest ∙ ap (λ v. without v s) (outside_all ws t.used u one.1))

  -- refusals with I, where types have L and those that are compared are related by E
  pub record Excludes (I : CheckFault → Type 0) (L : Tree → Type 0) (E : Tree → Tree → Type 0) : Type 0 where
    pub equal : (s t : Tree) → E s t → F s t
    pub large : (at : ℕ) (t : Tree) (f : CheckFault) → I f → L t → IsTooLargeAt at t f → ⊥
    pub unequal : (at : ℕ) (s t : Tree) (f : CheckFault) → I f → E s t → IsUnequal c at s t f → ⊥

  module _ (I : CheckFault → Type 0) (L : Tree → Type 0) (E : Tree → Tree → Type 0) (excludes : Excludes I L E) where
    abbrev S : Mode
    S = within L E

    abbrev Plain : CoreTree → List Variable → Vars → Deriv → Type 0
    Plain e g = Row M S e g

    abbrev Refutes : CoreTree → CheckFault → Type 0
    Refutes e f = (s : Scope) → Shows c e s f → (u : Vars) (d : Deriv) → Plain e s.variables u d → L (type_of d) → IsWithin u s →
        ⊥

    -- a part has its derivation, so only what is behind it can be shown
    over_none : (a : CoreTree) (f : CheckFault) → Refutes a f →
        (s : Scope) (P : Scope → Tree → Type 0) → First c a s (Shows c a s f) P →
        (u : Vars) (d : Deriv) → Over V S.kept (Plain a s.variables) u d → IsWithin u s →
        (P (without u s) (type_of d) → ⊥) → ⊥
    over_none a f refutes s P (inl x) u d y w k = refutes s x u y.core y.rule y.stands.1 w
    over_none a f refutes s P (inr x) u d y w k =
        k (subst (P (without u s)) (sym (ap type_of y.stands.0)) (after_is L E excludes.equal s a P x u y.core y.rule))

    -- the type that was found of a part that is compared
    known : (t : Tree) (P : Vars → Deriv → Type 0) (u : Vars) (d : Deriv) → (x : At V t S.compared P u d) → E (type_of x.core) t
    known t P u d x = subst (E (type_of x.core)) (sym (ap type_of x.stands.0.2) ∙ x.wanted) x.stands.0.1

    pub at_none : (a : CoreTree) (f : CheckFault) → Refutes a f →
        (s : Scope) (P : Scope → Tree → Type 0) → First c a s (Shows c a s f) P →
        (t : Tree) (u : Vars) (d : Deriv) → At V t S.compared (Plain a s.variables) u d → IsWithin u s →
        ((r : Tree) → E r t → P (without u s) r → ⊥) → ⊥
    at_none a f refutes s P (inl x) t u d y w k = refutes s x u y.core y.rule y.stands.1 w
    at_none a f refutes s P (inr x) t u d y w k =
        k (type_of y.core) (known t (Plain a s.variables) u d y) (after_is L E excludes.equal s a P x u y.core y.rule)

    -- under names
    under_core : (xs : List Binder) (ts : List Tree) (e : CoreTree) (s : Scope) (f : CheckFault) (P : Scope → Tree → Type 0) →
        Refutes e f → Under c xs ts e s (λ z. Shows c e z f) P f →
        (vs : List Variable) → AreVariables V ts vs →
        (u : Vars) (d : Deriv) → Plain e (enter_all vs s.variables) (under_all vs u) d → L (type_of d) → IsWithin u s →
        (P (without u s) (type_of d) → ⊥) → ⊥
    under_core xs ts e s f P refutes x vs h u d r small w k = go x.inside
      where
        alike : x.variables ≡ vs
        alike = same_variables V ts ts x.variables vs refl x.types h

        there : Scope
        there = entered_all xs x.variables s

        row_there : Plain e there.variables (under_all x.variables u) d
        row_there = subst (λ g. Plain e g (under_all x.variables u) d) (sym (entered_variables xs x.variables s x.long))
            (subst (λ z. Plain e (enter_all z s.variables) (under_all z u) d) (sym alike) r)

        unused : ShowsUnused (without (under_all x.variables u) there) xs f → ⊥
        unused = no_unused (length xs + 0) xs (without (under_all x.variables u) there) f
            (gone (length xs + 0) (under_all x.variables u) there
            (fits_all 0 xs x.variables s u x.long (λ k l. absurd (omega (arith, l))))) (omega arith)

        go : First c e there (Shows c e there f) (λ z t. ShowsUnused z xs f ⊎
            (AreUsed (length xs) z × P (left_all (length xs) z) t)) → ⊥
        go (inl y) = refutes there y (under_all x.variables u) d row_there small (within_all xs x.variables s u x.long w)
        go (inr y) = behind y.then
          where
            behind : ShowsUnused y.scope xs f ⊎ (AreUsed (length xs) y.scope ×
                P (left_all (length xs) y.scope) (type_of y.derivation)) → ⊥
            behind (inl z) = unused (after_is L E excludes.equal there e
                (λ o t. ShowsUnused o xs f) (record { scope = y.scope; derivation = y.derivation; typed = y.typed; then = z })
                (under_all x.variables u) d row_there)
            behind (inr (used, z)) =
                let typed : IsTypedUnder c xs ts s (left_all (length xs) y.scope) e y.derivation =
                record {
                  variables = x.variables;
                  types = x.types;
                  small = x.small;
                  long = x.long;
                  inner = y.scope;
                  typed =
                      y.typed;
                  used = used;
                  left = refl;
                } in
                let one = behind_is L E excludes.equal xs ts vs e s
                (left_all (length xs) y.scope) y.derivation typed alike u d r in
                k (subst (λ o. P o (type_of d)) one.1 (subst (P (left_all (length xs) y.scope)) one.0 z))

    under_none : (xs : List Binder) (ts : List Tree) (e : CoreTree) (s : Scope) (f : CheckFault) (P : Scope → Tree → Type 0) →
        Refutes e f → Under c xs ts e s (λ z. Shows c e z f) P f →
        (vs : List Variable) → AreVariables V ts vs →
        (u : Vars) (d : Deriv) → Over V S.kept (Plain e (enter_all vs s.variables)) (under_all vs u) d → IsWithin u s →
        (P (without u s) (type_of d) → ⊥) → ⊥
    under_none xs ts e s f P refutes x vs h u d y w k =
        under_core xs ts e s f P refutes x vs h u y.core y.rule y.stands.1 w
        (λ z. k (subst (P (without u s)) (sym (ap type_of y.stands.0)) z))

    small_as : (at : ℕ) (s t : Tree) (f : CheckFault) → I f → s ≡ t → L s → IsTooLargeAt at t f → ⊥
    small_as at s t f i e l x = excludes.large at t f i (subst L e l) x

    small_binder : (xs : List Binder) (ts : List Tree) (f : CheckFault) → I f → AllByRecursion L ts → IsLargeBinder xs ts f → ⊥
    small_binder [] ts f i l x = x
    small_binder (x ∷ xs) [] f i l y = y
    small_binder (x ∷ xs) (t ∷ ts) f i l (inl y) = excludes.large x.at t f i l.0 y
    small_binder (x ∷ xs) (t ∷ ts) f i l (inr y) = small_binder xs ts f i l.1 y.1

    -- ---- signs

    to_base : (b : Base) (s t : Tree) → E s t → t ≡ plain b → s ≡ plain b
    to_base b s t e h = equal_base_type V (equal_back V (excludes.equal s (plain b) (subst (E s) h e)).equal)

    comparable : (s t : Tree) → E s t → IsComparable t → s ≡ t
    comparable s t e (inl h) = to_base Int s t e h ∙ sym h
    comparable s t e (inr h) = to_base Char s t e h ∙ sym h

    fixed_fails : (at : ℕ) (b : Base) (found s : Tree) (f : CheckFault) → I f → s ≡ plain b → E found s →
        IsUnequal c at found (plain b) f → ⊥
    fixed_fails at b found s f i h e x = excludes.unequal at found (plain b) f i (subst (E found) h e) x

    no_operand : (o : Op) (at : ℕ) (found s t : Tree) (f : CheckFault) → I f → Operates o s t → E found s →
        ShowsOperand c (operand o) at found f → ⊥
    no_operand Add at found s t f i o e x = fixed_fails at Int found s f i o.0 e x
    no_operand Subtract at found s t f i o e x = fixed_fails at Int found s f i o.0 e x
    no_operand Multiply at found s t f i o e x = fixed_fails at Int found s f i o.0 e x
    no_operand Equal at found s t f i o e x = x.0 (subst IsComparable (sym (comparable found s e o.0)) o.0)
    no_operand Unequal at found s t f i o e x = x.0 (subst IsComparable (sym (comparable found s e o.0)) o.0)
    no_operand Less at found s t f i o e x = x.0 (subst IsComparable (sym (comparable found s e o.0)) o.0)
    no_operand AtMost at found s t f i o e x = x.0 (subst IsComparable (sym (comparable found s e o.0)) o.0)
    no_operand Greater at found s t f i o e x = x.0 (subst IsComparable (sym (comparable found s e o.0)) o.0)
    no_operand AtLeast at found s t f i o e x = x.0 (subst IsComparable (sym (comparable found s e o.0)) o.0)
    no_operand And at found s t f i o e x = fixed_fails at Truth found s f i o.0 e x
    no_operand Or at found s t f i o e x = fixed_fails at Truth found s f i o.0 e x

    wanted_operand : (o : Op) (found s t w : Tree) → Operates o s t → E found s → IsOperand c (operand o) found w → w ≡ s
    wanted_operand Add found s t w o e x = x.1 ∙ sym o.0
    wanted_operand Subtract found s t w o e x = x.1 ∙ sym o.0
    wanted_operand Multiply found s t w o e x = x.1 ∙ sym o.0
    wanted_operand Equal found s t w o e x = x.1 ∙ comparable found s e o.0
    wanted_operand Unequal found s t w o e x = x.1 ∙ comparable found s e o.0
    wanted_operand Less found s t w o e x = x.1 ∙ comparable found s e o.0
    wanted_operand AtMost found s t w o e x = x.1 ∙ comparable found s e o.0
    wanted_operand Greater found s t w o e x = x.1 ∙ comparable found s e o.0
    wanted_operand AtLeast found s t w o e x = x.1 ∙ comparable found s e o.0
    wanted_operand And found s t w o e x = x.1 ∙ sym o.0
    wanted_operand Or found s t w o e x = x.1 ∙ sym o.0

    -- ---- each form of a term

    local_none : (at k : ℕ) (f : CheckFault) → Refutes (local at k) f
    local_none at k f s (x, n, y) u d (v, there, p, e) small w = go y
      where
        taken : linear_at s.variables k ≡ true → open_in s k ≡ true
        taken l = w k (ap (λ z. z k) p ∙ ap (λ b. single b k k) (sym (linear_of s.variables k v there) ∙ l) ∙ single_at k)

        go : ((taken_at s k ≡ Gone) × (f ≡ UsedTwice at x)) ⊎ ((taken_at s k ≡ Outside) × (f ≡ CapturedLinear at x)) → ⊥
        go (inl y) = never_gone (linear_at s.variables k) (at_or_not s.there k) (is_inside s.bodies k) y.0 taken
        go (inr y) = never_outside (linear_at s.variables k) (at_or_not s.there k) (is_inside s.bodies k) y.0 taken

    global_none : (at k : ℕ) (ks : List ℕ) (f : CheckFault) → I f → Refutes (global at k ks) f
    global_none at k ks f i s (g, there, inl x) u d (h, t, ts, a, b, r, z, p, e) small w =
        let one : h ≡ g = same_Some h g (sym a ∙ there) in
        x.0 (counts V M.types ks h.kinds.items ts r z ∙ ap (λ y. length y.kinds.items) one)
    global_none at k ks f i s (g, there, inr (inl x)) u d (h, t, ts, a, b, r, z, p, e) small w =
        let one : h ≡ g = same_Some h g (sym a ∙ there) in
        no_arguments c ks g.kinds.items ts f r (subst (λ y. IsInstantiation V y.kinds.items ts) one z) x.1
    global_none at k ks f i s (g, there, inr (inr (t, ts, x, y, z, large))) u d (h, t', ts', a, b, r, z', p, e) small w =
        let one : h ≡ g = same_Some h g (sym a ∙ there) in
        let types : t' ≡ t = same_Some t' t (sym b ∙ ap (λ (y : GlobalEntry). slice_get M.types y.signature) one ∙ x) in
        let given : ts' ≡ ts = same_at M.types ks ts' ts r y in
        small_as at (type_of d) (instantiated ts t) f i
        (ap type_of e ∙ ap (λ y. instantiated y t') given ∙ ap (instantiated ts) types) small large

    new_none : (at k : ℕ) (f : CheckFault) → I f → Refutes (new at k) f
    new_none at k f i s (t, there, inl (j, formed, below, x)) u d (t', p, (n, q), y, e) small w =
        let types : t' ≡ t = same_Some t' t (sym p ∙ there) in
        let kinds : j ≡ session n = one_kind [] t' j (session n)
        (subst (λ z. IsWellFormed [] z j) (sym types) formed).kinded q.kinded in
        cc (sym below ∙ ap (λ z. subkind z (session Once)) kinds ∙ below_once n)
    new_none at k f i s (t, there, inr x) u d (t', p, q, y, e) small w =
        let types : t' ≡ t = same_Some t' t (sym p ∙ there) in
        small_as at (type_of d) (type.pair t (dual t)) f i (ap type_of e ∙ ap (λ z. type.pair z (dual z)) types) small x.1

    pair_none : (at : ℕ) (a b : CoreTree) (f : CheckFault) → I f → Refutes a f → Refutes b f → Refutes (pair at a b) f
    pair_none at a b f i ra rb s x u d (pa, pb, y, e) small w =
        over_none a f ra s _ x y.left pa y.first (within_left s u y.left y.right y.split w)
        (λ z. over_none b f rb (without y.left s) _ z y.right pb y.second (within_right s u y.left y.right y.split w)
        (λ l. small_as at (type_of d) _ f i (ap type_of e) small l))

    abbrev RefutesFields : CoreList → CheckFault → Type 0
    RefutesFields es f = (ts : List Tree) (s : Scope) → ShowsFields c es ts s f →
        (u : Vars) (ds : Derivs) → Fields M S es ts s.variables u ds → IsWithin u s → ⊥

    make_none : (at n k : ℕ) (es : CoreList) (f : CheckFault) → RefutesFields es f → Refutes (make at n k es) f
    make_none at n k es f res s (o, ts, p, q, x) u d (o', ts', ds, p', q', y, e) small w =
        let makers : o' ≡ o = same_Some o' o (sym p' ∙ p) in
        let types : ts' ≡ ts = same_at M.types o.fields.items ts' ts
        (subst (λ m. AreAt M.types m.fields.items ts') makers q') q in
        res ts s x u ds (subst (λ z. Fields M S es z s.variables u ds) types y) w

    lambda_none : (at : ℕ) (uses : Use) (k : ℕ) (z : Binder) (a : CoreTree) (f : CheckFault) → I f → Refutes a f →
        Refutes (lambda at uses k z a) f
    lambda_none at uses k z a f i ra s (t, there, x) u d (t', n, pa, p, has, bound, none, y, e) small w = go x
      where
        same : t' ≡ t
        same = same_Some t' t (sym p ∙ there)

        is_in : (o : Use) → (o ≡ Many → u ≡ no_vars) → (inside o s).variables ≡ s.variables
        is_in Many m = refl
        is_in Once m = refl

        over : Over V S.kept (Plain a (record { type = t; uses = n } ∷ (inside uses s).variables)) (under (is_once n) u) pa
        over = subst (λ g. Over V S.kept (Plain a (record { type = t; uses = n } ∷ g)) (under (is_once n) u) pa)
            (sym (is_in uses none))
            (subst (λ o. Over V S.kept (Plain a (record { type = o; uses = n } ∷ s.variables)) (under (is_once n) u) pa) same y)

        go : IsTooLargeAt z.at t f ⊎ Under c (z ∷ []) (t ∷ []) a (inside uses s) (λ o. Shows c a o f)
            (λ o r. IsTooLargeAt at (arrow uses t r) f) f → ⊥
        go (inl l) = excludes.large z.at t f i (subst L same bound) l
        go (inr l) = under_none (z ∷ []) (t ∷ []) a (inside uses s) f
            (λ o r. IsTooLargeAt at (arrow uses t r) f) ra l (record { type = t; uses = n } ∷ [])
            (refl, subst (λ o. HasUse V o n) same has, tt) u pa over (within_inside uses u s none w)
            (λ o. small_as at (type_of d) (arrow uses t (type_of pa)) f i
            (ap type_of e ∙ ap (λ r. arrow uses r (type_of pa)) same) small o)

    apply_none : (at : ℕ) (a b : CoreTree) (f : CheckFault) → I f → Refutes a f → Refutes b f → Refutes (apply at a b) f
    apply_none at a b f i ra rb s x u d (pa, pb, n, from, to, y, p, e) small w =
        over_none a f ra s _ x y.left pa y.first (within_left s u y.left y.right y.split w) go
      where
        go : ShowsNoFunction (place a) (type_of pa) f
            ⊎ ((m : Use) × (t : Tree) × (r : Tree) × (type_of pa ≡ arrow m t r) ×
            First c b (without y.left s) (Shows c b (without y.left s) f) (λ z q. IsUnequal c (place b) q t f)) → ⊥
        go (inl z) = z.0 n from to p
        go (inr (m, t, r, q, z)) =
            let arrows : arrow m t r ≡ arrow n from to = sym q ∙ p in
            let same : t ≡ from = cc in
            at_none b f rb (without y.left s) _ z from y.right pb y.second (within_right s u y.left y.right y.split w)
            (λ o k l. excludes.unequal (place b) o from f i k (subst (λ j. IsUnequal c (place b) o j f) same l))

    let_none : (at : ℕ) (z : Binder) (a b : CoreTree) (f : CheckFault) → Refutes a f → Refutes b f → Refutes (let_in at z a b) f
    let_none at z a b f ra rb s x u d (pa, pb, n, y, has, e) small w =
        over_none a f ra s _ x y.left pa y.first (within_left s u y.left y.right y.split w)
        (λ o. under_none (z ∷ []) (type_of pa ∷ []) b (without y.left s) f NoMore rb o
        (record { type = type_of pa; uses = n } ∷ []) (refl, has, tt) y.right pb y.second
        (within_right s u y.left y.right y.split w) (λ l. l))

    split_none : (at : ℕ) (z z' : Binder) (a b : CoreTree) (f : CheckFault) → Refutes a f → Refutes b f →
        Refutes (split at z z' a b) f
    split_none at z z' a b f ra rb s x u d (pa, pb, t, r, n, m, y, p, has, has', e) small w =
        over_none a f ra s _ x y.left pa y.first (within_left s u y.left y.right y.split w) go
      where
        there : Scope
        there = without y.left s

        go : ShowsNoPair (place a) (type_of pa) f ⊎
            ((t' : Tree) × (r' : Tree) × (type_of pa ≡ type.pair t' r') × Under c (z ∷ z' ∷ []) (t' ∷ r' ∷ []) b there
            (λ o. Shows c b o f) NoMore f) → ⊥
        go (inl o) = o.0 t r p
        go (inr (t', r', q, o)) =
            let pairs : type.pair t' r' ≡ type.pair t r = sym q ∙ p in
            let first : t' ≡ t = cc in
            let second : r' ≡ r = cc in
            let o' = subst (λ j. Under c (z ∷ z' ∷ []) (j ∷ r' ∷ []) b there (λ o. Shows c b o f) NoMore f) first o in
            let o'' = subst (λ j. Under c (z ∷ z' ∷ []) (t ∷ j ∷ []) b there (λ o. Shows c b o f) NoMore f) second o' in
            under_none (z ∷ z' ∷ []) (t ∷ r ∷ []) b there f NoMore rb o''
            (record { type = t; uses = n } ∷ record { type = r; uses = m } ∷ [])
            (refl, has, (refl, has', tt)) y.right pb y.second
            (within_right s u y.left y.right y.split w) (λ l. l)

    -- two types that are compared
    unless_none : (at : ℕ) (found t : Tree) (f : CheckFault) (P : Type 0) → I f → E found t → Unless c at found t f P →
        (P → ⊥) → ⊥
    unless_none at found t f P i e (inl x) k = excludes.unequal at found t f i e x
    unless_none at found t f P i e (inr x) k = k x.1

    if_none : (at : ℕ) (a b o : CoreTree) (f : CheckFault) → I f → Refutes a f → Refutes b f → Refutes o f →
        Refutes (if_else at a b o) f
    if_none at a b o f i ra rb ro s x u d (pa, pb, po, y, e) small w =
        at_none a f ra s _ x (plain Truth) y.left pa y.first (within_left s u y.left y.right y.split w)
        (λ r k z. unless_none (place a) r (plain Truth) f _ i k z
        (λ z1. over_none b f rb there _ z1 y.right pb y.second.0 inner
        (λ z2. at_none o f ro there _ z2 (type_of pb) y.right po y.second.1 inner (last (without y.right there)))))
      where
        there : Scope
        there = without y.left s

        inner : IsWithin y.right there
        inner = within_right s u y.left y.right y.split w

        last : (z : Scope) (r : Tree) → E r (type_of pb) → UseDifferent (place o) z z f ⊎
            ((z ≡ z) × IsUnequal c (place o) r (type_of pb) f) → ⊥
        last z r k (inl l) = l.differ.differ refl
        last z r k (inr l) = excludes.unequal (place o) r (type_of pb) f i k l.1

    abbrev RefutesArms : CoreArms → CheckFault → Type 0
    RefutesArms bs f = (B : Binding) (s : Scope) → ShowsArms c B bs s f →
        (u : Vars) (t : Tree) (ds : Derivs) → Arms M S B bs s.variables u t ds → IsWithin u s → ⊥

    abbrev RefutesFurther : CoreArms → CheckFault → Type 0
    RefutesFurther bs f =
        (B : Binding) (s : Scope) (u : Vars) (t : Tree) → ShowsFurther c B bs s (without u s) t f →
        (ds : Derivs) → FurtherArms M S B bs s.variables u t ds → IsWithin u s → ⊥

    case_none : (at : ℕ) (a : CoreTree) (bs : CoreArms) (f : CheckFault) → Refutes a f → RefutesArms bs f →
        Refutes (case_of at a bs) f
    case_none at a bs f ra rbs s x u d (pa, n, g, t, ds, y, p, q, l, e) small w =
        over_none a f ra s _ x y.left pa y.first (within_left s u y.left y.right y.split w) go
      where
        there : Scope
        there = without y.left s

        go : ShowsNoCase M.families at (type_of pa) (arm_labels bs) f
            ⊎ ((m : ℕ) × (h : Family) × (type_of pa ≡ named m) ×
            (slice_get M.families m ≡ Some h) × AreEachOnce (map (λ o. o.name) h.makers.items) (arm_labels bs) ×
            ShowsArms c (fields h.makers.items) bs there f) → ⊥
        go (inl z) = z.0 n g p q l
        go (inr (m, h, j, k, once, z)) =
            let names : named m ≡ named n = sym j ∙ p in
            let numbers : m ≡ n = cc in
            let families : h ≡ g = same_Some h g (sym k ∙ ap (slice_get M.families) numbers ∙ q) in
            rbs (fields g.makers.items) there (subst (λ o. ShowsArms c (fields o.makers.items) bs there f) families z) y.right t
            ds y.second (within_right s u y.left y.right y.split w)

    operate_none : (at : ℕ) (o : Op) (a b : CoreTree) (f : CheckFault) → I f → Refutes a f → Refutes b f →
        Refutes (operate at o a b) f
    operate_none at o a b f i ra rb s x u d (pa, pb, t, t', k, y, e) small w =
        at_none a f ra s _ x t y.left pa y.first (within_left s u y.left y.right y.split w) go
      where
        there : Scope
        there = without y.left s

        go : (r : Tree) → E r t → ShowsOperand c (operand o) (place a) r f ⊎
            ((v : Tree) × IsOperand c (operand o) r v × First c b there (Shows c b there f) (λ z q. IsUnequal c (place b) q v f))
            → ⊥
        go r h (inl z) = no_operand o (place a) r t t' f i k h z
        go r h (inr (v, m, z)) =
            let same : v ≡ t = wanted_operand o r t t' v k h m in
            at_none b f rb there _ z t y.right pb y.second (within_right s u y.left y.right y.split w)
            (λ q l j. excludes.unequal (place b) q t f i l (subst (λ n. IsUnequal c (place b) q n f) same j))

    negate_none : (at : ℕ) (a : CoreTree) (f : CheckFault) → I f → Refutes a f → Refutes (negate at a) f
    negate_none at a f i ra s x u d (pa, y, e) small w = at_none a f ra s _ x (plain Truth) u pa y w
        (λ r k z. excludes.unequal (place a) r (plain Truth) f i k z)

    send_none : (at : ℕ) (a b : CoreTree) (f : CheckFault) → I f → Refutes a f → Refutes b f → Refutes (send at a b) f
    send_none at a b f i ra rb s x u d (pa, pb, o, t, y, p, q, e) small w =
        over_none a f ra s _ x y.left pa y.first (within_left s u y.left y.right y.split w)
        (λ z. over_none b f rb (without y.left s) _ z y.right pb y.second (within_right s u y.left y.right y.split w) go)
      where
        go : ShowsSend at (type_of pa) (type_of pb) f → ⊥
        go (inl z) = z.0 o t p q
        go (inr (o', t', z0, z1, z)) =
            let bases : plain o' ≡ plain o = sym z0 ∙ p in
            let base : o' ≡ o = cc in
            let nexts : t' ≡ t = same_Some t' t (sym z1 ∙ ap (λ j. step (type_of pb) (Send j)) base ∙ q) in
            small_as at (type_of d) t' f i (ap type_of e ∙ sym nexts) small z

    receive_none : (at : ℕ) (a : CoreTree) (f : CheckFault) → I f → Refutes a f → Refutes (receive at a) f
    receive_none at a f i ra s x u d (pa, o, t, y, q, e) small w = over_none a f ra s _ x u pa y w go
      where
        go : ShowsReceive at (type_of pa) f → ⊥
        go (inl z) = z.0 o t q
        go (inr (o', t', z0, z)) =
            let base : o' ≡ o = one_step (type_of pa) (type_of pa) o' o t' t refl z0 q in
            let nexts : t' ≡ t = same_Some t' t (sym z0 ∙ ap (λ j. step (type_of pa) (Receive j)) base ∙ q) in
            small_as at (type_of d) (type.pair (plain o') t') f i
            (ap type_of e ∙ ap (λ j. type.pair (plain j) t) (sym base) ∙ ap (type.pair (plain o')) (sym nexts)) small z

    close_none : (at : ℕ) (a : CoreTree) (f : CheckFault) → Refutes a f → Refutes (close at a) f
    close_none at a f ra s x u d (pa, t, y, q, e) small w = over_none a f ra s _ x u pa y w (λ z. cc (sym z.0 ∙ q))

    wait_none : (at : ℕ) (a : CoreTree) (f : CheckFault) → Refutes a f → Refutes (wait at a) f
    wait_none at a f ra s x u d (pa, t, y, q, e) small w = over_none a f ra s _ x u pa y w (λ z. cc (sym z.0 ∙ q))

    select_none : (at : ℕ) (l : List ℕ) (a : CoreTree) (f : CheckFault) → I f → Refutes a f → Refutes (select at l a) f
    select_none at l a f i ra s x u d (pa, t, y, q, e) small w = over_none a f ra s _ x u pa y w go
      where
        go : ShowsSelect at l (type_of pa) f → ⊥
        go (inl z) = cc (sym z.0 ∙ q)
        go (inr (t', z0, z)) = small_as at (type_of d) t' f i (ap type_of e ∙ sym (same_Some t' t (sym z0 ∙ q))) small z

    match_none : (at : ℕ) (a : CoreTree) (bs : CoreArms) (f : CheckFault) → Refutes a f → RefutesArms bs f →
        Refutes (match_with at a bs) f
    match_none at a bs f ra rbs s x u d (pa, ls, t, ds, y, o, l, e) small w =
        over_none a f ra s _ x y.left pa y.first (within_left s u y.left y.right y.split w) go
      where
        there : Scope
        there = without y.left s

        go : ShowsNoMatch at (type_of pa) (arm_labels bs) f ⊎
            ((ks : List (List ℕ)) × IsOffering (type_of pa) ks × AreEachOnce ks (arm_labels bs) ×
            ShowsArms c (rest (type_of pa)) bs there f) → ⊥
        go (inl (inl z)) = z.0 ls o
        go (inl (inr ((ks, k, apart), is))) = apart
            (subst (λ z. AreEachOnce z (arm_labels bs)) (sym (same_offers ks ls (sym k.labels ∙ o.labels))) l)
        go (inr (ks, k, once, z)) = rbs (rest (type_of pa)) there z y.right t ds y.second
            (within_right s u y.left y.right y.split w)

    fork_none : (at : ℕ) (a : CoreTree) (f : CheckFault) → Refutes a f → Refutes (fork at a) f
    fork_none at a f ra s x u d (pa, y, q, e) small w = over_none a f ra s _ x u pa y w (λ z. z.0 q)

    seq_none : (at : ℕ) (a b : CoreTree) (f : CheckFault) → Refutes a f → Refutes b f → Refutes (seq at a b) f
    seq_none at a b f ra rb s x u d (pa, pb, y, q, e) small w =
        over_none a f ra s _ x y.left pa y.first (within_left s u y.left y.right y.split w) go
      where
        there : Scope
        there = without y.left s

        go : ShowsDropped V (place a) (type_of pa) f ⊎ (HasUse V (type_of pa) Many × Shows c b there f) → ⊥
        go (inl z) = z.0 q
        go (inr z) = rb there z.1 y.right y.second.core y.second.rule y.second.stands.1
            (within_right s u y.left y.right y.split w)

    fields_none : (e : CoreTree) (es : CoreList) (f : CheckFault) → I f → Refutes e f → RefutesFields es f →
        RefutesFields (term e es) f
    fields_none e es f i re res [] s x u ds r w = x
    fields_none e es f i re res (t ∷ ts) s x u ds (pa, more, y, p) w =
        at_none e f re s _ x t y.left pa y.first (within_left s u y.left y.right y.split w)
        (λ r k z. unless_none (place e) r t f _ i k z
        (λ o. res ts (without y.left s) o y.right more y.second (within_right s u y.left y.right y.split w)))

    arms_none : (l : List ℕ) (xs : List Binder) (e : CoreTree) (bs : CoreArms) (f : CheckFault) → I f → Refutes e f →
        RefutesFurther bs f → RefutesArms (arm l xs e bs) f
    arms_none l xs e bs f i re rfs B s (ts', binds', x) u t ds (ts, vs, pa, more, binds, are, bound, long, y, p, further, q) w =
        go x
      where
        types : ts ≡ ts'
        types = one_bound M B B refl l ts ts' binds binds'

        go : IsLargeBinder xs ts' f ⊎ Under c xs ts' e s (λ z. Shows c e z f) (λ z r. ShowsFurther c B bs s z r f) f → ⊥
        go (inl z) = small_binder xs ts' f i (subst (AllByRecursion L) types bound) z
        go (inr z) = under_none xs ts' e s f (λ o r. ShowsFurther c B bs s o r f) re z vs
            (subst (λ z. AreVariables V z vs) types are) u pa y w
            (λ o. rfs B s u t (subst (λ r. ShowsFurther c B bs s (without u s) r f) p o) more further w)

    further_none : (l : List ℕ) (xs : List Binder) (a : CoreTree) (bs : CoreArms) (f : CheckFault) → I f → Refutes a f →
        RefutesFurther bs f → RefutesFurther (arm l xs a bs) f
    further_none l xs a bs f i ra rfs B s u t (ts', binds', x) ds (ts, vs, pa, more, binds, are, bound, long, y, further, q) w =
        go x
      where
        types : ts ≡ ts'
        types = one_bound M B B refl l ts ts' binds binds'

        last : UseDifferent (place a) (without u s) (without u s) f ⊎
            ((without u s ≡ without u s) × Unless c (place a) (type_of y.core) t f (ShowsFurther c B bs s (without u s) t f)) → ⊥
        last (inl z) = z.differ.differ refl
        last (inr z) = unless_none (place a) (type_of y.core) t f _ i
            (known t (Plain a (enter_all vs s.variables)) (under_all vs u) pa y) z.1 (λ o. rfs B s u t o more further w)

        go : IsLargeBinder xs ts' f ⊎ Under c xs ts' a s (λ z. Shows c a z f)
            (λ z r. UseDifferent (place a) (without u s) z f ⊎
            ((z ≡ without u s) × Unless c (place a) r t f (ShowsFurther c B bs s (without u s) t f))) f → ⊥
        go (inl z) = small_binder xs ts' f i (subst (AllByRecursion L) types bound) z
        go (inr z) = under_core xs ts' a s f (λ o r. UseDifferent (place a) (without u s) o f ⊎
            ((o ≡ without u s) × Unless c (place a) r t f (ShowsFurther c B bs s (without u s) t f))) ra z vs
            (subst (λ z. AreVariables V z vs) types are) u y.core y.rule y.stands.1 w last

    mutual
      -- where a refusal is shown of a term, the term has no plain derivation that uses what is there
      pub no_plain : (e : CoreTree) (f : CheckFault) → I f → Refutes e f
      no_plain (local at k) f i = local_none at k f
      no_plain (global at k ks) f i = global_none at k ks f i
      no_plain (int at n) f i = λ s x u d r small w. x
      no_plain (bool at b) f i = λ s x u d r small w. x
      no_plain (char at n) f i = λ s x u d r small w. x
      no_plain (unit at) f i = λ s x u d r small w. x
      no_plain (pair at a b) f i = pair_none at a b f i (no_plain a f i) (no_plain b f i)
      no_plain (make at n k es) f i = make_none at n k es f (no_fields es f i)
      no_plain (lambda at n k x a) f i = lambda_none at n k x a f i (no_plain a f i)
      no_plain (apply at a b) f i = apply_none at a b f i (no_plain a f i) (no_plain b f i)
      no_plain (let_in at x a b) f i = let_none at x a b f (no_plain a f i) (no_plain b f i)
      no_plain (split at x x' a b) f i = split_none at x x' a b f (no_plain a f i) (no_plain b f i)
      no_plain (if_else at a b o) f i = if_none at a b o f i (no_plain a f i) (no_plain b f i) (no_plain o f i)
      no_plain (case_of at a bs) f i = case_none at a bs f (no_plain a f i) (no_arms_of bs f i)
      no_plain (operate at o a b) f i = operate_none at o a b f i (no_plain a f i) (no_plain b f i)
      no_plain (negate at a) f i = negate_none at a f i (no_plain a f i)
      no_plain (new at k) f i = new_none at k f i
      no_plain (send at a b) f i = send_none at a b f i (no_plain a f i) (no_plain b f i)
      no_plain (receive at a) f i = receive_none at a f i (no_plain a f i)
      no_plain (close at a) f i = close_none at a f (no_plain a f i)
      no_plain (wait at a) f i = wait_none at a f (no_plain a f i)
      no_plain (select at l a) f i = select_none at l a f i (no_plain a f i)
      no_plain (match_with at a bs) f i = match_none at a bs f (no_plain a f i) (no_arms_of bs f i)
      no_plain (fork at a) f i = fork_none at a f (no_plain a f i)
      no_plain (seq at a b) f i = seq_none at a b f (no_plain a f i) (no_plain b f i)

      no_fields : (es : CoreList) (f : CheckFault) → I f → RefutesFields es f
      no_fields no_terms f i = λ ts s x u ds r w. x
      no_fields (term e es) f i = fields_none e es f i (no_plain e f i) (no_fields es f i)

      no_arms_of : (bs : CoreArms) (f : CheckFault) → I f → RefutesArms bs f
      no_arms_of no_arms f i = λ B s x u t ds r w. x
      no_arms_of (arm l xs e bs) f i = arms_none l xs e bs f i (no_plain e f i) (no_further bs f i)

      no_further : (bs : CoreArms) (f : CheckFault) → I f → RefutesFurther bs f
      no_further no_arms f i = λ B s u t x ds r w. x
      no_further (arm l xs e bs) f i = further_none l xs e bs f i (no_plain e f i) (no_further bs f i)
