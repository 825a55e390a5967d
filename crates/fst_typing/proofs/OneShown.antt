-- A term is refused in one way at most, and one that has its plain derivation isn't refused.
use Rattle.std.proofs.Common.{◌≡◌, ◌∙◌, ◌⊎◌, inl, inr, ℕ, true, false, List, [], ◌∷◌, Some, Vec, Global, length, slice_get, refl, sym, ap, subst, arith}
use Rattle.std.specs.Prelude.{⊤, Option, None}
use Rattle.std.proofs.lemmas.Option.{same_Some}
use Rattle.std.proofs.lemmas.Bool.{cases_lt}
use Rattle.fst_types.specs.Tree as type
use Rattle.fst_types.specs.Tree.{Tree, plain, arrow, named}
use Rattle.fst_types.specs.Instance.{instantiated}
use Rattle.fst_types.specs.Size.{HasTooManyNodes}
use Rattle.fst_types.specs.declared.base.Base.TheVariants.{Int, Bool as Truth}
use Rattle.fst_types.specs.declared.family.Family.{Family}
use Rattle.fst_types.specs.declared.family.Maker.{Maker}
use Rattle.fst_types.specs.declared.kind.Kind.{Kind}
use Rattle.fst_types.specs.declared.kind.Use.TheVariants.{Many, Once}
use Rattle.fst_types.specs.declared.label.Label.{Label}
use Rattle.fst_kinds.specs.Kinds.{session, subkind}
use Rattle.fst_kinds.specs.WellFormed.{IsInstantiation, IsSession, IsWellFormed}
use Rattle.fst_kinds.specs.declared.fault.KindFault.TheVariants.{WrongKind}
use Rattle.fst_kinds.proofs.Laws.{one_kind}
use Rattle.fst_lts.specs.Dual.{dual}
use Rattle.fst_terms.specs.CoreTree.{CoreTree, local, global, int, bool, char, unit, pair, make, lambda, apply, let_in, split, if_else, case_of, operate, negate, new, send, receive, close, wait, select, match_with, fork, seq, CoreList, no_terms, term, CoreArms, no_arms, arm}
use Rattle.fst_terms.specs.InRange.{maker_of}
use Rattle.fst_terms.specs.declared.binder.Binder.{Binder}
use Rattle.fst_terms.specs.declared.global.GlobalEntry.{GlobalEntry}
use Rattle.fst_terms.specs.declared.term.Op.{Op}
use Rattle.fst_terms.specs.declared.term.Op.TheVariants.{Add, Subtract, Multiply, Equal, Unequal, Less, AtMost, Greater, AtLeast, And, Or}
use Rattle.fst_context.specs.Scope.{Scope, at_or_not}
use Rattle.fst_context.specs.View.{taken_at}
use Rattle.fst_context.specs.declared.context.Taken.TheVariants.{Gone, Outside}
use Rattle.fst_arms.specs.Arms.{arm_labels, AreEachOnce}
use Rattle.fst_derivations.specs.Deriv.{type_of}
use Rattle.fst_derivations.specs.Modules.{AreFieldsFormed}
use Rattle.fst_derivations.specs.Parts.{AreAt, HasUse, IsFormed, IsOffering}
use Rattle.fst_derivations.specs.Rules.{Binding, fields, rest}
use Rattle.fst_derivations.specs.Laws.{PlainTypesAreUnique}
use Rattle.fst_derivations.proofs.Laws.{same_at, same_variables, one_bound}
use Rattle.fst_equiv.specs.Comparison.{AreFormed as AreBothFormed, IsComparison}
use Rattle.fst_equiv.specs.Outcomes.{Outcome, equal, shape, word, undecided, too_large, HasOutcome, outcome_of, OneOutcome}
use Rattle.fst_equiv.specs.declared.comparing.Same.{Same}
use Rattle.fst_equiv.specs.declared.comparing.Same.TheVariants as same
use Rattle.fst_premises.specs.Checks.{Check, IsInSize, AreInSize}
use Rattle.fst_premises.specs.Scenes.{AreFormed}
use Rattle.fst_premises.specs.Scopes.{AreUsed, entered_all, inside, left_all}
use Rattle.fst_premises.specs.Shown.{place, DifferAt, IsLargeBinder, IsTooLargeAt, IsUnused, ShowsArguments, ShowsDropped, ShowsNoCase, ShowsNoFunction, ShowsNoMatch, ShowsNoPair, ShowsReceive, ShowsClose, ShowsWait, ShowsSelect, ShowsSend, ShowsUnused, ShowsVariable, ShowsUse, ShowsNew, UseDifferent}
use Rattle.fst_premises.specs.Signs.{operand}
use Rattle.fst_premises.specs.declared.fault.CheckFault.{CheckFault}
use Rattle.fst_premises.specs.declared.fault.CheckFault.TheVariants.{Mismatch, UsedTwice, CapturedLinear, TypeArguments, KindOfArgument, Branches, Undecided, Kinds, TooLarge}
use Rattle.fst_premises.specs.declared.fault.Difference.TheVariants.{Shape, Word}
use Rattle.fst_typing.specs.Laws.{SaySame, itself, traces, questions}
use Rattle.fst_typing.specs.Typed.{IsKnown}
use Rattle.fst_typing.specs.Shown.{Shows, ShowsFields, ShowsArms, ShowsFurther, ShowsOperand, IsOperand, IsUnequal, After, First, Under, Unless, NoMore}
use Rattle.fst_typing.specs.Shown.IsUnequal.{shape as by_shape, word as by_word, undecided as by_budget, too_large as by_size}
use Rattle.fst_typing.proofs.ArmsReady.{types_formed}
use Rattle.fst_typing.proofs.Formed.{arrow_formed}
use Rattle.fst_typing.proofs.Forms.{base_formed}
use Rattle.fst_typing.proofs.Groundless.{Excludes, after_is, below_once, counts, no_arguments, no_plain, same_offers}

-- what is said in one way at most
abbrev pub IsOne : (CheckFault → Type 0) → Type 0
IsOne P = (f g : CheckFault) → P f → P g → SaySame f g

-- one of two causes, of which the second comes only where the first doesn't
pub either : (A B : CheckFault → Type 0) → IsOne A → ((f g : CheckFault) → A f → B g → ⊥) → IsOne B → IsOne (λ f. A f ⊎ B f)
either A B a apart b f g (inl x) (inl y) = a f g x y
either A B a apart b f g (inl x) (inr y) = absurd (apart f g x y)
either A B a apart b f g (inr x) (inl y) = absurd (apart g f y x)
either A B a apart b f g (inr x) (inr y) = b f g x y

pub exact : {f g h : CheckFault} → f ≡ h → g ≡ h → SaySame f g
exact x y = itself (x ∙ sym y)

pub one_large : (at : ℕ) (t : Tree) → IsOne (IsTooLargeAt at t)
one_large at t f g x y = exact x.is y.is

pub not_large : (at : ℕ) (t : Tree) (f : CheckFault) → IsTooLargeAt at t f → IsInSize t → ⊥
not_large at t f x m = absurd (omega (arith, m, x.large))

one_large_binder : (xs : List Binder) (ts : List Tree) → IsOne (IsLargeBinder xs ts)
one_large_binder [] ts f g x y = absurd x
one_large_binder (x ∷ xs) [] f g y z = absurd y
one_large_binder (x ∷ xs) (t ∷ ts) f g y z =
    either (IsTooLargeAt x.at t) (λ h. (HasTooManyNodes t → ⊥) × IsLargeBinder xs ts h) (one_large x.at t)
    (λ h h' l n. n.0 l.large) (λ h h' u v. one_large_binder xs ts h h' u.1 v.1) f g y z

no_large_binder : (xs : List Binder) (ts : List Tree) (f : CheckFault) → IsLargeBinder xs ts f → AreInSize ts → ⊥
no_large_binder [] ts f x m = x
no_large_binder (x ∷ xs) [] f y m = y
no_large_binder (x ∷ xs) (t ∷ ts) f (inl y) m = not_large x.at t f y m.0
no_large_binder (x ∷ xs) (t ∷ ts) f (inr y) m = no_large_binder xs ts f y.1 m.1

one_unused : (z : Scope) (xs : List Binder) → IsOne (ShowsUnused z xs)
one_unused z [] f g x y = absurd x
one_unused z (x ∷ xs) f g y y' =
    either (IsUnused z (length xs) x) (λ h. (at_or_not z.there (length xs) ≡ false) × ShowsUnused z xs h)
    (λ h h' u v. exact u.is v.is) (λ h h' u v. cc (u.there, v.0)) (λ h h' u v. one_unused z xs h h' u.1 v.1) f g y y'

not_unused : (z : Scope) (xs : List Binder) (f : CheckFault) → ShowsUnused z xs f → AreUsed (length xs) z → ⊥
not_unused z [] f x u = x
not_unused z (x ∷ xs) f (inl y) u = cc (y.there, u (length xs) (omega arith))
not_unused z (x ∷ xs) f (inr y) u = not_unused z xs f y.1 (λ k l. u k (omega (arith, l)))

-- the outermost variable that two branches use differently
one_different : (s z : Scope) (j k : ℕ) → DifferAt s z j → DifferAt s z k → j ≡ k
one_different s z j k x y = elim (cases_lt j k) as (λ _. j ≡ k) [
  | inl l ↦ absurd (y.differ (x.outermost k l))
  | inr l ↦ elim (cases_lt k j) as (λ _. j ≡ k) [ inl m ↦ absurd (x.differ (y.outermost j m)) | inr m ↦ omega (arith, l, m) ]
]

one_use_different : (at : ℕ) (s z : Scope) → IsOne (UseDifferent at s z)
one_use_different at s z f g x y =
    let places = one_different s z x.variable y.variable x.differ y.differ in
    let names : x.name ≡ y.name = same_Some x.name y.name (sym x.named ∙ ap (slice_get s.names) places ∙ y.named) in
    itself (x.is ∙ ap (Branches at) names ∙ sym y.is)

one_variable : (at k : ℕ) (s : Scope) → IsOne (ShowsVariable at k s)
one_variable at k s f g (x, n, u) (y, m, v) = go u v
  where
    names : x ≡ y
    names = same_Some x y (sym n ∙ m)

    go : ((taken_at s k ≡ Gone) × (f ≡ UsedTwice at x)) ⊎ ((taken_at s k ≡ Outside) × (f ≡ CapturedLinear at x)) →
        ((taken_at s k ≡ Gone) × (g ≡ UsedTwice at y)) ⊎ ((taken_at s k ≡ Outside) × (g ≡ CapturedLinear at y)) → SaySame f g
    go (inl u) (inl v) = itself (u.1 ∙ ap (UsedTwice at) names ∙ sym v.1)
    go (inl u) (inr v) = absurd (cc (u.0, v.0))
    go (inr u) (inl v) = absurd (cc (u.0, v.0))
    go (inr u) (inr v) = itself (u.1 ∙ ap (CapturedLinear at) names ∙ sym v.1)

one_no_function : (at : ℕ) (t : Tree) → IsOne (ShowsNoFunction at t)
one_no_function at t f g x y = exact x.1 y.1

one_no_pair : (at : ℕ) (t : Tree) → IsOne (ShowsNoPair at t)
one_no_pair at t f g x y = exact x.1 y.1

one_dropped : (vars : List Kind) (at : ℕ) (t : Tree) → IsOne (ShowsDropped vars at t)
one_dropped vars at t f g x y = exact x.1 y.1

one_no_case : (fs : List Family) (at : ℕ) (t : Tree) (ls : List (List ℕ)) → IsOne (ShowsNoCase fs at t ls)
one_no_case fs at t ls f g x y = exact x.1 y.1

one_no_match : (at : ℕ) (t : Tree) (ls : List (List ℕ)) → IsOne (ShowsNoMatch at t ls)
one_no_match at t ls f g (inl x) (inl y) = exact x.1 y.1
one_no_match at t ls f g (inl x) (inr y) = absurd (x.0 y.0.0 y.0.1)
one_no_match at t ls f g (inr x) (inl y) = absurd (y.0 x.0.0 x.0.1)
one_no_match at t ls f g (inr x) (inr y) = exact x.1 y.1

no_match : (at : ℕ) (t : Tree) (bs : CoreArms) (f : CheckFault) → ShowsNoMatch at t (arm_labels bs) f →
    (ls : List (List ℕ)) → IsOffering t ls → AreEachOnce ls (arm_labels bs) → ⊥
no_match at t bs f (inl x) ls o e = x.0 ls o
no_match at t bs f (inr ((ks, k, distinct), is)) ls o e =
    distinct (subst (λ z. AreEachOnce z (arm_labels bs)) (sym (same_offers ks ls (sym k.labels ∙ o.labels))) e)

one_send : (at : ℕ) (s t : Tree) → IsOne (ShowsSend at s t)
one_send at s t f g (inl x) (inl y) = exact x.1 y.1
one_send at s t f g (inl x) (inr (b, n, e, h, l)) = absurd (x.0 b n e h)
one_send at s t f g (inr (b, n, e, h, l)) (inl y) = absurd (y.0 b n e h)
one_send at s t f g (inr (b, n, e, h, l)) (inr (b', n', e', h', l')) = exact l.is l'.is

one_receive : (at : ℕ) (t : Tree) → IsOne (ShowsReceive at t)
one_receive at t f g (inl x) (inl y) = exact x.1 y.1
one_receive at t f g (inl x) (inr (b, n, h, l)) = absurd (x.0 b n h)
one_receive at t f g (inr (b, n, h, l)) (inl y) = absurd (y.0 b n h)
one_receive at t f g (inr (b, n, h, l)) (inr (b', n', h', l')) = exact l.is l'.is

one_close : (at : ℕ) (t : Tree) → IsOne (ShowsClose at t)
one_close at t f g x y = exact x.1 y.1

one_wait : (at : ℕ) (t : Tree) → IsOne (ShowsWait at t)
one_wait at t f g x y = exact x.1 y.1

one_select : (at : ℕ) (l : List ℕ) (t : Tree) → IsOne (ShowsSelect at l t)
one_select at l t f g (inl x) (inl y) = exact x.1 y.1
one_select at l t f g (inl x) (inr (n, h, m)) = absurd (cc (sym x.0 ∙ h))
one_select at l t f g (inr (n, h, m)) (inl y) = absurd (cc (sym y.0 ∙ h))
one_select at l t f g (inr (n, h, m)) (inr (n', h', m')) = exact m.is m'.is

module _ (c : Check) where
  abbrev V : List Kind
  V = c.surroundings.vars

  abbrev T : List Tree
  T = c.surroundings.types

  -- what is said of an argument of this type and this kind, and of those behind it
  abbrev Argument : ℕ → Kind → Kind → (CheckFault → Type 0) → CheckFault → Type 0
  Argument k j v Others f = ((subkind j v ≡ false) × ((at : ℕ) × (slice_get c.places k ≡ Some at) × (f ≡ KindOfArgument at j v)))
      ⊎ ((subkind j v ≡ true) × Others f)

  one_of_kind : (k : ℕ) (j v : Kind) (Others : CheckFault → Type 0) → IsOne Others → IsOne (Argument k j v Others)
  one_of_kind k j v Others one f g (inl (p, (at, h, is))) (inl (p', (at', h', is'))) =
      let places : at ≡ at' = same_Some at at' (sym h ∙ h') in
      itself (is ∙ ap (λ i. KindOfArgument i j v) places ∙ sym is')
  one_of_kind k j v Others one f g (inl (p, z)) (inr y) = absurd (cc (sym p ∙ y.0))
  one_of_kind k j v Others one f g (inr x) (inl (p, z)) = absurd (cc (sym x.0 ∙ p))
  one_of_kind k j v Others one f g (inr x) (inr y) = one f g x.1 y.1

  one_argument : (ks : List ℕ) (vs : List Kind) → IsOne (ShowsArguments c ks vs)
  one_argument [] vs f g x y = absurd x
  one_argument (k ∷ ks) [] f g x y = absurd x
  one_argument (k ∷ ks) (v ∷ vs) f g (t, j, there, formed, x) (t', j', there', formed', y) =
      let types : t ≡ t' = same_Some t t' (sym there ∙ there') in
      let kinds : j ≡ j' = one_kind V t' j j' (subst (λ z. IsWellFormed V z j) types formed).kinded formed'.kinded in
      one_of_kind k j' v (ShowsArguments c ks vs) (one_argument ks vs) f g
      (subst (λ z. Argument k z v (ShowsArguments c ks vs) f) kinds x) y

  -- what is said of the use of this global
  abbrev Uses : ℕ → List ℕ → GlobalEntry → CheckFault → Type 0
  Uses at ks h f =
      ((length ks ≡ length h.kinds.items → ⊥) × (f ≡ TypeArguments at (length ks) (length h.kinds.items)))
      ⊎ (((length ks ≡ length h.kinds.items) × ShowsArguments c ks h.kinds.items f)
      ⊎ ((t : Tree) × (args : List Tree) × (slice_get T h.signature ≡ Some t) × AreAt T ks args ×
      IsInstantiation V h.kinds.items args × IsTooLargeAt at (instantiated args t) f))

  one_use_of : (at k : ℕ) (ks : List ℕ) → IsOne (ShowsUse c at k ks)
  one_use_of at k ks f g (h, there, x) (h', there', y) = go x (subst (λ o. Uses at ks o g) (sym globals) y)
    where
      globals : h ≡ h'
      globals = same_Some h h' (sym there ∙ there')

      go : Uses at ks h f → Uses at ks h g → SaySame f g
      go (inl x) (inl y) = exact x.1 y.1
      go (inl x) (inr (inl y)) = absurd (x.0 y.0)
      go (inl x) (inr (inr (t, args, a, b, i, l))) = absurd (x.0 (counts V T ks h.kinds.items args b i))
      go (inr (inl x)) (inl y) = absurd (y.0 x.0)
      go (inr (inr (t, args, a, b, i, l))) (inl y) = absurd (y.0 (counts V T ks h.kinds.items args b i))
      go (inr (inl x)) (inr (inl y)) = one_argument ks h.kinds.items f g x.1 y.1
      go (inr (inl x)) (inr (inr (t, args, a, b, i, l))) = absurd (no_arguments c ks h.kinds.items args f b i x.1)
      go (inr (inr (t, args, a, b, i, l))) (inr (inl y)) = absurd (no_arguments c ks h.kinds.items args g b i y.1)
      go (inr (inr (t, args, a, b, i, l))) (inr (inr (t', args', a', b', i', l'))) = exact l.is l'.is

  one_new : (at k : ℕ) → IsOne (ShowsNew c at k)
  one_new at k f g (t, there, x) (t', there', y) = go x y
    where
      types : t ≡ t'
      types = same_Some t t' (sym there ∙ there')

      kinds : (j j' : Kind) → IsWellFormed [] t j → IsWellFormed [] t' j' → j ≡ j'
      kinds j j' w w' = one_kind [] t' j j' (subst (λ z. IsWellFormed [] z j) types w).kinded w'.kinded

      go : ((j : Kind) × IsWellFormed [] t j × (subkind j (session Once) ≡ false) ×
          ((p : ℕ) × (slice_get c.places k ≡ Some p) × (f ≡ Kinds p (WrongKind j (session Once))))) ⊎
          (IsSession [] t × IsTooLargeAt at (type.pair t (dual t)) f) →
          ((j : Kind) × IsWellFormed [] t' j × (subkind j (session Once) ≡ false) ×
          ((p : ℕ) × (slice_get c.places k ≡ Some p) × (g ≡ Kinds p (WrongKind j (session Once))))) ⊎
          (IsSession [] t' × IsTooLargeAt at (type.pair t' (dual t')) g) → SaySame f g
      go (inl (j, w, b, (p, h, is))) (inl (j', w', b', (p', h', is'))) =
          let places : p ≡ p' = same_Some p p' (sym h ∙ h') in
          let same = kinds j j' w w' in
          itself (is ∙ (λ i. Kinds (places i) (WrongKind (same i) (session Once))) ∙ sym is')
      go (inl (j, w, b, z)) (inr ((n, w'), l)) = absurd
          (cc (sym b ∙ ap (λ z. subkind z (session Once)) (kinds j (session n) w w') ∙ below_once n))
      go (inr ((n, w), l)) (inl (j', w', b, z)) = absurd
          (cc (sym b ∙ ap (λ z. subkind z (session Once)) (sym (kinds (session n) j' w w')) ∙ below_once n))
      go (inr (s, l)) (inr (s', l')) = exact l.is l'.is

  -- ---- two types that aren't known to be equal

  -- what is said of two types that compare so
  abbrev Says : ℕ → Tree → Tree → Outcome → CheckFault → Type 0
  Says at s t equal f = ⊥
  Says at s t shape f = f ≡ Mismatch at s t Shape
  Says at s t (word xs side) f = (w : Vec Label Global) × (w.items ≡ xs) × (f ≡ Mismatch at s t (Word w side))
  Says at s t undecided f = (h : _) × (ps : _) × (f ≡ Undecided at s t h ps)
  Says at s t too_large f = f ≡ TooLarge at

  say_same : (at : ℕ) (s t : Tree) (o : Outcome) → IsOne (Says at s t o)
  say_same at s t equal f g x y = absurd x
  say_same at s t shape f g x y = exact x y
  say_same at s t (word xs side) f g (v, e, x) (w, e', y) = subst
      (λ h. SaySame h g) (sym x) (subst (SaySame (Mismatch at s t (Word v side))) (sym y) (traces (e ∙ sym e')))
  say_same at s t undecided f g (h, ps, x) (h', qs, y) = subst
      (λ k. SaySame k g) (sym x) (subst (SaySame (Undecided at s t h ps)) (sym y) questions)
  say_same at s t too_large f g x y = exact x y

  module _ (outcomes : OneOutcome) (found : (t u : Tree) (budget : ℕ) (a : Same) → IsComparison t u budget a →
      HasOutcome t u budget (outcome_of a)) where
    outcome : (at : ℕ) (s t : Tree) (f : CheckFault) → IsUnequal c at s t f →
        (o : Outcome) × HasOutcome s t c.budget o × Says at s t o f
    outcome at s t _ (by_shape h) = (shape, found s t c.budget same.Shape h, refl)
    outcome at s t _ (by_word {w} {side} h) = (word w.items side, found s t c.budget (same.Word w side) h, (w, refl, refl))
    outcome at s t _ (by_budget {g} {pairs} h) = (undecided, found s t c.budget (same.Undecided g pairs) h, (g, pairs, refl))
    outcome at s t _ (by_size h) = (too_large, h, refl)

    both_formed : (s t : Tree) → IsFormed V s → IsFormed V t → AreBothFormed s t
    both_formed s t (j, w) (k, v) = (V, j, k, w, v)

    pub one_unequal : (at : ℕ) (s t : Tree) → IsFormed V s → IsFormed V t → IsOne (IsUnequal c at s t)
    one_unequal at s t p q f g x y =
        let o = outcome at s t f x in
        let r = outcome at s t g y in
        let one = outcomes s t c.budget (both_formed s t p q) o.0 r.0 o.1 r.1 in
        say_same at s t r.0 f g (subst (λ z. Says at s t z f) one o.2) r.2

    pub not_both : (at : ℕ) (s t : Tree) (f : CheckFault) → IsKnown c s t → IsUnequal c at s t f → ⊥
    not_both at s t f k x =
        let o = outcome at s t f x in
        let one = outcomes s t c.budget (both_formed s t k.conversion.left k.conversion.right) o.0 equal o.1
        (found s t c.budget same.Yes k.yes) in
        subst (λ z. Says at s t z f) one o.2

    one_unless : (at : ℕ) (s t : Tree) (P : CheckFault → Type 0) → IsFormed V s → IsFormed V t → IsOne P → IsOne
        (λ f. Unless c at s t f (P f))
    one_unless at s t P p q one =
        either (IsUnequal c at s t) (λ f. IsKnown c s t × P f) (one_unequal at s t p q) (λ f g x y. not_both at s t f y.0 x)
        (λ f g x y. one f g x.1 y.1)

    one_operand : (o : Option Tree) (at : ℕ) (s : Tree) → IsFormed V s →
        ((t : Tree) → o ≡ Some t → IsFormed V t) → IsOne (ShowsOperand c o at s)
    one_operand (Some t) at s p q = one_unequal at s t p (q t refl)
    one_operand None at s p q = λ f g x y. one_unequal at s (plain Int) p (base_formed c Int) f g x.1 y.1

    no_operand : (o : Option Tree) (at : ℕ) (s w : Tree) (f : CheckFault) → ShowsOperand c o at s f → IsOperand c o s w → ⊥
    no_operand (Some t) at s w f x y = not_both at s t f y.0 x
    no_operand None at s w f x y = x.0 y.0

    same_operand : (o : Option Tree) (s v w : Tree) → IsOperand c o s v → IsOperand c o s w → v ≡ w
    same_operand (Some t) s v w x y = x.1 ∙ sym y.1
    same_operand None s v w x y = x.1 ∙ sym y.1

    operand_formed : (o : Option Tree) (s w : Tree) → IsFormed V s → IsOperand c o s w → IsFormed V w
    operand_formed (Some t) s w p x = subst (IsFormed V) (sym x.1) x.0.conversion.right
    operand_formed None s w p x = subst (IsFormed V) (sym x.1) p

    sign_formed : (o : Op) (t : Tree) → operand o ≡ Some t → IsFormed V t
    sign_formed Add t e = let is : plain Int ≡ t = cc in subst (IsFormed V) is (base_formed c Int)
    sign_formed Subtract t e = let is : plain Int ≡ t = cc in subst (IsFormed V) is (base_formed c Int)
    sign_formed Multiply t e = let is : plain Int ≡ t = cc in subst (IsFormed V) is (base_formed c Int)
    sign_formed Equal t e = absurd (cc e)
    sign_formed Unequal t e = absurd (cc e)
    sign_formed Less t e = absurd (cc e)
    sign_formed AtMost t e = absurd (cc e)
    sign_formed Greater t e = absurd (cc e)
    sign_formed AtLeast t e = absurd (cc e)
    sign_formed And t e = let is : plain Truth ≡ t = cc in subst (IsFormed V) is (base_formed c Truth)
    sign_formed Or t e = let is : plain Truth ≡ t = cc in subst (IsFormed V) is (base_formed c Truth)

    module _ (unique : PlainTypesAreUnique) where
      abbrev Each : CheckFault → Type 0
      Each f = ⊤

      pub excludes : Excludes c unique Each IsInSize (IsKnown c)
      excludes = record {
        equal = λ s t k. k.conversion;
        large = λ at t f i m l. not_large at t f l m;
        unequal =
            λ at s t f i k x. not_both at s t f k x;
      }

      -- a term that has its plain derivation isn't refused
      pub apart : (a : CoreTree) (s : Scope) (f : CheckFault) (P : Scope → Tree → Type 0) → Shows c a s f → After c s a P → ⊥
      apart a s f P x y = no_plain c unique Each IsInSize
          (IsKnown c) excludes a f tt s x y.typed.used y.derivation y.typed.fact.rule y.typed.fact.small y.typed.within

      pub one_first : (a : CoreTree) (s : Scope) (P : CheckFault → Scope → Tree → Type 0) → IsOne (Shows c a s) →
          ((z : Scope) (t : Tree) → IsFormed V t → IsOne (λ f. P f z t)) → IsOne (λ f. First c a s (Shows c a s f) (P f))
      one_first a s P one then f g (inl x) (inl y) = one f g x y
      one_first a s P one then f g (inl x) (inr y) = absurd (apart a s f (P g) x y)
      one_first a s P one then f g (inr x) (inl y) = absurd (apart a s g (P f) y x)
      one_first a s P one then f g (inr x) (inr y) =
          let t = y.typed in
          let moved = after_is c unique IsInSize (IsKnown c)
          (λ p q k. k.conversion) s a (P f) x t.used y.derivation t.fact.rule in
          then y.scope (type_of y.derivation) t.fact.formed f g
          (subst (λ z. P f z (type_of y.derivation)) (sym t.rest) moved) y.then

      one_under : (xs : List Binder) (ts : List Tree) (e : CoreTree) (s : Scope) (P : CheckFault → Scope → Tree → Type 0) →
          ((z : Scope) → IsOne (Shows c e z)) → ((z : Scope) (t : Tree) → IsFormed V t → IsOne (λ f. P f z t)) →
          IsOne (λ f. Under c xs ts e s (λ z. Shows c e z f) (P f) f)
      one_under xs ts e s P one then f g x y =
          let ws = y.variables in
          let alike : x.variables ≡ ws = same_variables V ts ts x.variables ws refl x.types y.types in
          let behind : CheckFault → Scope → Tree → Type 0 = λ h z t. ShowsUnused z xs h ⊎
          (AreUsed (length xs) z × P h (left_all (length xs) z) t) in
          one_first e (entered_all xs ws s) behind (one (entered_all xs ws s))
          (λ z t k. either (ShowsUnused z xs) (λ h. AreUsed (length xs) z × P h (left_all (length xs) z) t) (one_unused z xs)
          (λ h h' u v. not_unused z xs h u v.0) (λ h h' u v. then (left_all (length xs) z) t k h h' u.1 v.1))
          f g (subst (λ o. First c e (entered_all xs o s) (Shows c e (entered_all xs o s) f) (behind f)) alike x.inside) y.inside

      one_nothing : (z : Scope) (t : Tree) → IsFormed V t → IsOne (λ f. NoMore z t)
      one_nothing z t k f g x y = absurd x

      module _ (formed : (n k : ℕ) (o : Maker) → maker_of (slice_get c.surroundings.families n) k ≡ Some o →
          AreFieldsFormed T o.fields.items) where
        mutual
          -- a term is refused in one way at most
          pub one_shown : (e : CoreTree) (s : Scope) → IsOne (Shows c e s)
          one_shown (local at k) s = one_variable at k s
          one_shown (global at k ks) s = one_use_of at k ks
          one_shown (int at n) s = λ f g x y. absurd x
          one_shown (bool at b) s = λ f g x y. absurd x
          one_shown (char at n) s = λ f g x y. absurd x
          one_shown (unit at) s = λ f g x y. absurd x
          one_shown (pair at a b) s =
              one_first a s _ (one_shown a s) (λ r t h. one_first b r _ (one_shown b r) (λ z u k. one_large at (type.pair t u)))
          one_shown (make at n k es) s = λ f g (o, ts, p, q, x) (o', ts', p', q', y).
              let makers : o ≡ o' = same_Some o o' (sym p ∙ p') in
              let types : ts ≡ ts' = same_at T o'.fields.items ts ts' (subst (λ m. AreAt T m.fields.items ts) makers q) q' in
              one_fields es ts' s (types_formed V T o'.fields.items ts' (formed n k o' p') q') f g
              (subst (λ us. ShowsFields c es us s f) types x) y
          one_shown (lambda at uses k x a) s = λ f g (t, there, y) (t', there', z).
              let types : t ≡ t' = same_Some t t' (sym there ∙ there') in
              let P : Tree → CheckFault → Type 0 = λ t f. IsTooLargeAt x.at t f ⊎ Under c (x ∷ []) (t ∷ []) a (inside uses s)
              (λ z. Shows c a z f) (λ z u. IsTooLargeAt at (arrow uses t u) f) f in
              either (IsTooLargeAt x.at t') (λ f. Under c (x ∷ []) (t' ∷ []) a (inside uses s) (λ z. Shows c a z f)
              (λ z u. IsTooLargeAt at (arrow uses t' u) f) f) (one_large x.at t')
              (λ h h' l u. not_large x.at t' h l u.small.0)
              (one_under (x ∷ []) (t' ∷ []) a (inside uses s) (λ f z u. IsTooLargeAt at (arrow uses t' u) f) (λ z. one_shown a z)
              (λ z u k. one_large at (arrow uses t' u))) f g (subst (λ o. P o f) types y) z
          one_shown (apply at a b) s =
              one_first a s _ (one_shown a s)
              (λ r t h. either (ShowsNoFunction (place a) t) _ (one_no_function (place a) t) (λ f g x y. x.0 y.0 y.1 y.2 y.3)
              (λ f g (n, from, to, e, x) (n', from', to', e', y).
              let arrows : arrow n from to ≡ arrow n' from' to' = sym e ∙ e' in
              let same : from ≡ from' = cc in
              one_first b r (λ f z u. IsUnequal c (place b) u from' f) (one_shown b r)
              (λ z u k. one_unequal (place b) u from' k (arrow_formed V n' from' to' (subst (IsFormed V) e' h)).0) f g
              (subst (λ o. First c b r (Shows c b r f) (λ z u. IsUnequal c (place b) u o f)) same x) y))
          one_shown (let_in at x a b) s =
              one_first a s _ (one_shown a s) (λ r t h. one_under (x ∷ []) (t ∷ []) b r (λ f. NoMore)
              (λ z. one_shown b z) one_nothing)
          one_shown (split at x y a b) s =
              one_first a s _ (one_shown a s)
              (λ r t h. either (ShowsNoPair (place a) t) _ (one_no_pair (place a) t) (λ f g u v. u.0 v.0 v.1 v.2)
              (λ f g (u, v, e, z) (u', v', e', z').
              let pairs : type.pair u v ≡ type.pair u' v' = sym e ∙ e' in
              let first : u ≡ u' = cc in
              let second : v ≡ v' = cc in
              one_under (x ∷ y ∷ []) (u' ∷ v' ∷ []) b r (λ f. NoMore) (λ z. one_shown b z) one_nothing f g
              (subst (λ o. Under c (x ∷ y ∷ []) (u' ∷ o ∷ []) b r (λ z. Shows c b z f) NoMore f) second
              (subst (λ o. Under c (x ∷ y ∷ []) (o ∷ v ∷ []) b r (λ z. Shows c b z f) NoMore f) first z)) z'))
          one_shown (if_else at a b o) s =
              one_first a s _ (one_shown a s)
              (λ r t h. one_unless (place a) t (plain Truth) _ h (base_formed c Truth)
              (one_first b r _ (one_shown b r)
              (λ z u k. one_first o r _ (one_shown o r)
              (λ y v l. either (UseDifferent (place o) z y)
              (λ f. (y ≡ z) × IsUnequal c (place o) v u f) (one_use_different (place o) z y)
              (λ f g d e. d.differ.differ (ap (λ (w : Scope). at_or_not w.there d.variable) (sym e.0)))
              (λ f g d e. one_unequal (place o) v u l k f g d.1 e.1)))))
          one_shown (case_of at a bs) s =
              one_first a s _ (one_shown a s)
              (λ r t h. either (ShowsNoCase c.surroundings.families at t (arm_labels bs)) _
              (one_no_case c.surroundings.families at t (arm_labels bs)) (λ f g x y. x.0 y.0 y.1 y.2 y.3 y.4)
              (λ f g (n, fam, e, i, once, x) (n', fam', e', i', once', y).
              let names : named n ≡ named n' = sym e ∙ e' in
              let numbers : n ≡ n' = cc in
              let families : fam ≡ fam' = same_Some fam fam' (sym i ∙ ap (slice_get c.surroundings.families) numbers ∙ i') in
              one_arms (fields fam'.makers.items) bs r f g
              (subst (λ o. ShowsArms c (fields o.makers.items) bs r f) families x) y))
          one_shown (operate at o a b) s =
              one_first a s _ (one_shown a s)
              (λ r t h. either (ShowsOperand c (operand o) (place a) t) _ (one_operand (operand o) (place a) t h (sign_formed o))
              (λ f g x y. no_operand (operand o) (place a) t y.0 f x y.1)
              (λ f g (v, m, x) (v', m', y).
              let same : v ≡ v' = same_operand (operand o) t v v' m m' in
              one_first b r (λ f z u. IsUnequal c (place b) u v' f) (one_shown b r)
              (λ z u k. one_unequal (place b) u v' k (operand_formed (operand o) t v' h m')) f g
              (subst (λ w. First c b r (Shows c b r f) (λ z u. IsUnequal c (place b) u w f)) same x) y))
          one_shown (negate at a) s = one_first a s _ (one_shown a s)
              (λ r t h. one_unequal (place a) t (plain Truth) h (base_formed c Truth))
          one_shown (new at k) s = one_new at k
          one_shown (send at a b) s = one_first a s _ (one_shown a s)
              (λ r t h. one_first b r _ (one_shown b r) (λ z u k. one_send at t u))
          one_shown (receive at a) s = one_first a s _ (one_shown a s) (λ r t h. one_receive at t)
          one_shown (close at a) s = one_first a s _ (one_shown a s) (λ r t h. one_close at t)
          one_shown (wait at a) s = one_first a s _ (one_shown a s) (λ r t h. one_wait at t)
          one_shown (select at l a) s = one_first a s _ (one_shown a s) (λ r t h. one_select at l t)
          one_shown (match_with at a bs) s =
              one_first a s _ (one_shown a s)
              (λ r t h. either (ShowsNoMatch at t (arm_labels bs)) _ (one_no_match at t (arm_labels bs))
              (λ f g x y. no_match at t bs f x y.0 y.1 y.2)
              (λ f g x y. one_arms (rest t) bs r f g x.3 y.3))
          one_shown (fork at a) s = one_first a s _ (one_shown a s) (λ r t h. one_dropped V (place a) t)
          one_shown (seq at a b) s =
              one_first a s _ (one_shown a s)
              (λ r t h. either (ShowsDropped V (place a) t) (λ f. HasUse V t Many × Shows c b r f) (one_dropped V (place a) t)
              (λ f g x y. x.0 y.0) (λ f g x y. one_shown b r f g x.1 y.1))

          one_fields : (es : CoreList) (ts : List Tree) (s : Scope) → AreFormed V ts → IsOne (ShowsFields c es ts s)
          one_fields no_terms ts s h = λ f g x y. absurd x
          one_fields (term e es) [] s h = λ f g x y. absurd x
          one_fields (term e es) (t ∷ ts) s h =
              one_first e s _ (one_shown e s) (λ r u k. one_unless (place e) u t _ k h.0 (one_fields es ts r h.1))

          one_arms : (B : Binding) (bs : CoreArms) (s : Scope) → IsOne (ShowsArms c B bs s)
          one_arms B no_arms s = λ f g x y. absurd x
          one_arms B (arm l xs e bs) s = λ f g (ts, binds, x) (ts', binds', y).
              let types : ts ≡ ts' = one_bound c.surroundings B B refl l ts ts' binds binds' in
              let P : List Tree → CheckFault → Type 0 =
              λ ts f. IsLargeBinder xs ts f ⊎ Under c xs ts e s (λ z. Shows c e z f) (λ z t. ShowsFurther c B bs s z t f) f in
              either (IsLargeBinder xs ts') (λ f. Under c xs ts' e s (λ z. Shows c e z f) (λ z t. ShowsFurther c B bs s z t f) f)
              (one_large_binder xs ts') (λ h h' b u. no_large_binder xs ts' h b u.small)
              (one_under xs ts' e s (λ f z t. ShowsFurther c B bs s z t f) (λ z. one_shown e z)
              (λ z t k. one_further B bs s z t k)) f g (subst (λ o. P o f) types x) y

          one_further : (B : Binding) (bs : CoreArms) (s r : Scope) (t : Tree) → IsFormed V t → IsOne (ShowsFurther c B bs s r t)
          one_further B no_arms s r t q = λ f g x y. absurd x
          one_further B (arm l xs e bs) s r t q = λ f g (ts, binds, x) (ts', binds', y).
              let types : ts ≡ ts' = one_bound c.surroundings B B refl l ts ts' binds binds' in
              let R : CheckFault → Scope → Tree → Type 0 = λ f z u. UseDifferent (place e) r z f ⊎
              ((z ≡ r) × Unless c (place e) u t f (ShowsFurther c B bs s r t f)) in
              let P : List Tree → CheckFault → Type 0 =
              λ ts f. IsLargeBinder xs ts f ⊎ Under c xs ts e s (λ z. Shows c e z f) (R f) f in
              either (IsLargeBinder xs ts') (λ f. Under c xs ts' e s (λ z. Shows c e z f) (R f) f) (one_large_binder xs ts')
              (λ h h' b u. no_large_binder xs ts' h b u.small)
              (one_under xs ts' e s R (λ z. one_shown e z)
              (λ z u k. either (UseDifferent (place e) r z)
              (λ f. (z ≡ r) × Unless c (place e) u t f (ShowsFurther c B bs s r t f)) (one_use_different (place e) r z)
              (λ h h' d j. d.differ.differ (ap (λ (w : Scope). at_or_not w.there d.variable) (sym j.0)))
              (λ h h' d j. one_unless (place e) u t (ShowsFurther c B bs s r t) k q (one_further B bs s r t q) h h' d.1 j.1))) f g
              (subst (λ o. P o f) types x) y
