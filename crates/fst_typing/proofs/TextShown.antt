-- The types that a term's refusal names have texts.
use Rattle.std.proofs.Common.{◌≡◌, ◌⊎◌, inl, inr, ℕ, List, [], ◌∷◌, Option, Some, None, length, sym, subst}
use Rattle.std.specs.Prelude.{IfSome}
use Rattle.fst_types.specs.Tree.{Tree, plain}
use Rattle.fst_types.specs.declared.base.Base.TheVariants.{Int, Bool as Truth}
use Rattle.fst_types.specs.declared.family.Family.{Family}
use Rattle.fst_types.specs.declared.kind.Kind.{Kind}
use Rattle.fst_types.specs.declared.kind.Use.TheVariants.{Once}
use Rattle.fst_types.specs.declared.moves.Move.TheVariants as move
use Rattle.fst_kinds.specs.Kinds.{session}
use Rattle.fst_kinds.specs.declared.fault.KindFault.TheVariants.{WrongKind}
use Rattle.fst_terms.specs.CoreTree.{CoreTree, local, global, int, bool, char, unit, pair, make, lambda, apply, let_in, split, if_else, case_of, operate, negate, new, send, receive, close, wait, select, match_with, fork, seq, CoreList, no_terms, term, CoreArms, no_arms, arm}
use Rattle.fst_terms.specs.declared.term.Op.{Op}
use Rattle.fst_terms.specs.declared.term.Op.TheVariants.{Add, Subtract, Multiply, Equal, Unequal, Less, AtMost, Greater, AtLeast, And, Or}
use Rattle.fst_context.specs.Scope.{Scope}
use Rattle.fst_derivations.specs.Deriv.{type_of}
use Rattle.fst_derivations.specs.Rules.{Binding, fields, rest}
use Rattle.fst_derivations.specs.Texts.{HasText, AllHaveText, BindingHasText}
use Rattle.fst_derivations.proofs.Laws.{arrow_texts, bound_texts, pair_texts, plain_text, text_at, texts_at}
use Rattle.fst_premises.specs.Checks.{Check}
use Rattle.fst_premises.specs.Scopes.{inside}
use Rattle.fst_premises.specs.Shown.{place, UseDifferent, ShowsDropped, ShowsNoCase, ShowsNoFunction, ShowsNoMatch, ShowsNoPair, ShowsReceive, ShowsClose, ShowsWait, ShowsSelect, ShowsSend}
use Rattle.fst_premises.specs.Signs.{operand}
use Rattle.fst_typing.specs.Shown.{IsOperand, NoMore, Unless, Shows, ShowsArms, ShowsFields, ShowsFurther, ShowsOperand}
use Rattle.fst_typing.specs.Texts.{HaveTexts}
use Rattle.fst_premises.specs.declared.fault.CheckFault.{CheckFault}
use Rattle.fst_premises.specs.declared.fault.CheckFault.TheVariants.{UsedTwice, CapturedLinear, NotFunction, TypeArguments, NoSuchMove, Arms, Dropped, NotPair, Kinds}
use Rattle.fst_typing.proofs.TextParts.{ScopeHasText, either, said, large_text, large_binder_text, argument_text, branches_text, unequal_text, unless_text, inside_text, after_text, behind_text, under_text}

-- the type of a sign's operands has a text
sign_text : (n : ℕ) (o : Op) → IfSome (operand o) (HasText n)
sign_text n Add = plain_text n Int
sign_text n Subtract = plain_text n Int
sign_text n Multiply = plain_text n Int
sign_text n Equal = tt
sign_text n Unequal = tt
sign_text n Less = tt
sign_text n AtMost = tt
sign_text n Greater = tt
sign_text n AtLeast = tt
sign_text n And = plain_text n Truth
sign_text n Or = plain_text n Truth

operand_text : (n : ℕ) (c : Check) (o : Option Tree) (at : ℕ) (s : Tree) (f : CheckFault) → IfSome o (HasText n) → HasText n s →
    ShowsOperand c o at s f → HaveTexts n f
operand_text n c (Some t) at s f i h x = unequal_text n c at s t f h i x
operand_text n c None at s f i h x = unequal_text n c at s (plain Int) f h (plain_text n Int) x.1

-- so has the one that is wanted of the second operand
wanted_text : (n : ℕ) (c : Check) (o : Option Tree) (s wanted : Tree) → IfSome o (HasText n) → HasText n s →
    IsOperand c o s wanted → HasText n wanted
wanted_text n c (Some t) s wanted i h x = subst (HasText n) (sym x.1) i
wanted_text n c None s wanted i h x = subst (HasText n) (sym x.1) h

-- ---- what is no function, no pair, no data type, and what has no such move

no_function_text : (n at : ℕ) (t : Tree) (f : CheckFault) → HasText n t → ShowsNoFunction at t f → HaveTexts n f
no_function_text n at t f h x = said n f (NotFunction at t) x.1 h

no_pair_text : (n at : ℕ) (t : Tree) (f : CheckFault) → HasText n t → ShowsNoPair at t f → HaveTexts n f
no_pair_text n at t f h x = said n f (NotPair at t) x.1 h

dropped_text : (n : ℕ) (vars : List Kind) (at : ℕ) (t : Tree) (f : CheckFault) → HasText n t → ShowsDropped vars at t f →
    HaveTexts n f
dropped_text n vars at t f h x = said n f (Dropped at t) x.1 h

no_case_text : (n : ℕ) (fs : List Family) (at : ℕ) (t : Tree) (ls : List (List ℕ)) (f : CheckFault) → HasText n t →
    ShowsNoCase fs at t ls f → HaveTexts n f
no_case_text n fs at t ls f h x = said n f (Arms at t) x.1 h

no_match_text : (n at : ℕ) (t : Tree) (ls : List (List ℕ)) (f : CheckFault) → HasText n t → ShowsNoMatch at t ls f → HaveTexts n f
no_match_text n at t ls f h (inl x) = said n f (NoSuchMove at t move.Offer) x.1 (h, tt)
no_match_text n at t ls f h (inr x) = said n f (Arms at t) x.1 h

send_text : (n at : ℕ) (s t : Tree) (f : CheckFault) → HasText n s → HasText n t → ShowsSend at s t f → HaveTexts n f
send_text n at s t f g h (inl x) = said n f (NoSuchMove at t (move.Send s)) x.1 (h, g)
send_text n at s t f g h (inr x) = large_text n at x.1 f x.4

receive_text : (n at : ℕ) (t : Tree) (f : CheckFault) → HasText n t → ShowsReceive at t f → HaveTexts n f
receive_text n at t f h (inl x) = said n f (NoSuchMove at t move.Receive) x.1 (h, tt)
receive_text n at t f h (inr x) = large_text n at _ f x.3

close_text : (n at : ℕ) (t : Tree) (f : CheckFault) → HasText n t → ShowsClose at t f → HaveTexts n f
close_text n at t f h x = said n f (NoSuchMove at t move.Close) x.1 (h, tt)

wait_text : (n at : ℕ) (t : Tree) (f : CheckFault) → HasText n t → ShowsWait at t f → HaveTexts n f
wait_text n at t f h x = said n f (NoSuchMove at t move.Wait) x.1 (h, tt)

select_text : (n at : ℕ) (l : List ℕ) (t : Tree) (f : CheckFault) → HasText n t → ShowsSelect at l t f → HaveTexts n f
select_text n at l t f h (inl x) = said n f (NoSuchMove at t (move.Select l)) x.1 (h, tt)
select_text n at l t f h (inr x) = large_text n at x.0 f x.2

module _ (c : Check) (types : AllHaveText (length c.surroundings.families) c.surroundings.types) where
  abbrev N : ℕ
  N = length c.surroundings.families

  mutual
    -- where the variables in scope have types with texts, so have the types that a term's refusal names
    pub shown_texts : (e : CoreTree) (s : Scope) (f : CheckFault) → ScopeHasText N s → Shows c e s f → HaveTexts N f
    shown_texts (local at k) s f h x = either N f x.2 (λ y. said N f (UsedTwice at x.0) y.1 tt)
        (λ y. said N f (CapturedLinear at x.0) y.1 tt)
    shown_texts (global at k ks) s f h x =
        either N f x.2 (λ y. said N f (TypeArguments at (length ks) (length x.0.kinds.items)) y.1 tt)
        (λ y. either N f y (λ z. argument_text N c ks x.0.kinds.items f z.1) (λ z. large_text N at _ f z.5))
    shown_texts (int at n) s f h x = absurd x
    shown_texts (bool at b) s f h x = absurd x
    shown_texts (char at n) s f h x = absurd x
    shown_texts (unit at) s f h x = absurd x
    shown_texts (pair at a b) s f h x =
        either N f x (shown_texts a s f h)
        (λ y. either N f y.then (shown_texts b y.scope f (behind_text c types a s h y)) (λ z. large_text N at _ f z.then))
    shown_texts (make at n k es) s f h x = fields_texts es x.1 s f
        (texts_at N c.surroundings.types x.0.fields.items x.1 types x.3) h x.4
    shown_texts (lambda at uses k x a) s f h y =
        let from : HasText N y.0 = text_at N c.surroundings.types k y.0 types y.1 in
        either N f y.2 (large_text N x.at y.0 f)
        (under_text c types (λ r. Shows c a r f) _ (x ∷ []) (y.0 ∷ []) a (inside uses s) f (from, tt) (inside_text N uses s h)
        (λ r. shown_texts a r f) (λ z t g. large_text N at _ f))
    shown_texts (apply at a b) s f h x =
        either N f x (shown_texts a s f h)
        (λ y. let first = after_text c types a s h y in
        either N f y.then (no_function_text N (place a) (type_of y.derivation) f first)
        (λ z. let behind = behind_text c types a s h y in
        either N f z.4 (shown_texts b y.scope f behind)
        (λ w. unequal_text N c (place b) (type_of w.derivation) z.1 f (after_text c types b y.scope behind w)
        (arrow_texts N z.0 z.1 z.2 (subst (HasText N) z.3 first)).0 w.then)))
    shown_texts (let_in at x a b) s f h y =
        either N f y (shown_texts a s f h)
        (λ z. under_text c types (λ r. Shows c b r f) NoMore (x ∷ []) (type_of z.derivation ∷ []) b z.scope f
        (after_text c types a s h z, tt) (behind_text c types a s h z) (λ r. shown_texts b r f) (λ q t g. absurd) z.then)
    shown_texts (split at x y a b) s f h w =
        either N f w (shown_texts a s f h)
        (λ z. let first = after_text c types a s h z in
        either N f z.then (no_pair_text N (place a) (type_of z.derivation) f first)
        (λ p. let parts = pair_texts N p.0 p.1 (subst (HasText N) p.2 first) in
        under_text c types (λ r. Shows c b r f) NoMore (x ∷ y ∷ []) (p.0 ∷ p.1 ∷ []) b z.scope f (parts.0, (parts.1, tt))
        (behind_text c types a s h z) (λ r. shown_texts b r f) (λ q t g. absurd) p.3))
    shown_texts (if_else at a b o) s f h x =
        either N f x (shown_texts a s f h)
        (λ y. let behind = behind_text c types a s h y in
        unless_text c types _ (place a) (type_of y.derivation) (plain Truth) f (after_text c types a s h y) (plain_text N Truth)
        (λ z. either N f z (shown_texts b y.scope f behind)
        (λ w. either N f w.then (shown_texts o y.scope f behind)
        (λ v. either N f v.then (branches_text N (place o) w.scope v.scope f)
        (λ p. unequal_text N c (place o) (type_of v.derivation) (type_of w.derivation) f (after_text c types o y.scope behind v)
        (after_text c types b y.scope behind w) p.1)))) y.then)
    shown_texts (case_of at a bs) s f h x =
        either N f x (shown_texts a s f h)
        (λ y. either N f y.then (no_case_text N c.surroundings.families at (type_of y.derivation) _ f
        (after_text c types a s h y))
        (λ z. arms_texts (fields z.1.makers.items) tt bs y.scope f (behind_text c types a s h y) z.5))
    shown_texts (operate at o a b) s f h x =
        either N f x (shown_texts a s f h)
        (λ y. let first = after_text c types a s h y in
        let behind = behind_text c types a s h y in
        either N f y.then (operand_text N c (operand o) (place a) (type_of y.derivation) f (sign_text N o) first)
        (λ z. either N f z.2 (shown_texts b y.scope f behind)
        (λ w. unequal_text N c (place b) (type_of w.derivation) z.0 f (after_text c types b y.scope behind w)
        (wanted_text N c (operand o) (type_of y.derivation) z.0 (sign_text N o) first z.1) w.then)))
    shown_texts (negate at a) s f h x =
        either N f x (shown_texts a s f h) (λ y. unequal_text N c (place a) (type_of y.derivation) (plain Truth) f
        (after_text c types a s h y) (plain_text N Truth) y.then)
    shown_texts (new at k) s f h x =
        either N f x.2 (λ y. said N f (Kinds y.3.0 (WrongKind y.0 (session Once))) y.3.2 tt) (λ y. large_text N at _ f y.1)
    shown_texts (send at a b) s f h x =
        either N f x (shown_texts a s f h)
        (λ y. let behind = behind_text c types a s h y in
        either N f y.then (shown_texts b y.scope f behind)
        (λ z. send_text N at (type_of y.derivation) (type_of z.derivation) f (after_text c types a s h y)
        (after_text c types b y.scope behind z) z.then))
    shown_texts (receive at a) s f h x = either N f x (shown_texts a s f h)
        (λ y. receive_text N at (type_of y.derivation) f (after_text c types a s h y) y.then)
    shown_texts (close at a) s f h x = either N f x (shown_texts a s f h)
        (λ y. close_text N at (type_of y.derivation) f (after_text c types a s h y) y.then)
    shown_texts (wait at a) s f h x = either N f x (shown_texts a s f h)
        (λ y. wait_text N at (type_of y.derivation) f (after_text c types a s h y) y.then)
    shown_texts (select at l a) s f h x = either N f x (shown_texts a s f h)
        (λ y. select_text N at l (type_of y.derivation) f (after_text c types a s h y) y.then)
    shown_texts (match_with at a bs) s f h x =
        either N f x (shown_texts a s f h)
        (λ y. let first = after_text c types a s h y in
        either N f y.then (no_match_text N at (type_of y.derivation) _ f first)
        (λ z. arms_texts (rest (type_of y.derivation)) first bs y.scope f (behind_text c types a s h y) z.3))
    shown_texts (fork at a) s f h x =
        either N f x (shown_texts a s f h) (λ y. dropped_text N c.surroundings.vars (place a) (type_of y.derivation) f
        (after_text c types a s h y) y.then)
    shown_texts (seq at a b) s f h x =
        either N f x (shown_texts a s f h)
        (λ y. either N f y.then (dropped_text N c.surroundings.vars (place a) (type_of y.derivation) f
        (after_text c types a s h y))
        (λ z. shown_texts b y.scope f (behind_text c types a s h y) z.1))

    -- so have those that the refusal of a constructor's arguments names
    fields_texts : (es : CoreList) (ts : List Tree) (s : Scope) (f : CheckFault) → AllHaveText N ts → ScopeHasText N s →
        ShowsFields c es ts s f → HaveTexts N f
    fields_texts no_terms ts s f a h x = absurd x
    fields_texts (term e es) [] s f a h x = absurd x
    fields_texts (term e es) (t ∷ ts) s f a h x =
        either N f x (shown_texts e s f h)
        (λ y. unless_text c types _ (place e) (type_of y.derivation) t f (after_text c types e s h y) a.0
        (fields_texts es ts y.scope f a.1 (behind_text c types e s h y)) y.then)

    -- and that of arms
    arms_texts : (B : Binding) → BindingHasText N B →
        (bs : CoreArms) (s : Scope) (f : CheckFault) → ScopeHasText N s → ShowsArms c B bs s f → HaveTexts N f
    arms_texts B b no_arms s f h x = absurd x
    arms_texts B b (arm l xs e bs) s f h x =
        let bound = bound_texts c.surroundings N B l x.0 types b x.1 in
        either N f x.2 (large_binder_text N xs x.0 f)
        (under_text c types (λ r. Shows c e r f) _ xs x.0 e s f bound h (λ r. shown_texts e r f)
        (λ z t g. further_texts B b bs s z t f h g))

    further_texts : (B : Binding) → BindingHasText N B →
        (bs : CoreArms) (s r : Scope) (t : Tree) (f : CheckFault) → ScopeHasText N s → HasText N t → ShowsFurther c B bs s r t f →
        HaveTexts N f
    further_texts B b no_arms s r t f h i x = absurd x
    further_texts B b (arm l xs e bs) s r t f h i x =
        let bound = bound_texts c.surroundings N B l x.0 types b x.1 in
        either N f x.2 (large_binder_text N xs x.0 f)
        (under_text c types (λ q. Shows c e q f) (λ z u. UseDifferent (place e) r z f ⊎
        ((z ≡ r) × Unless c (place e) u t f (ShowsFurther c B bs s r t f))) xs x.0 e s f bound h (λ q. shown_texts e q f)
        (λ z u g w. either N f w (branches_text N (place e) r z f)
        (λ v. unless_text c types (ShowsFurther c B bs s r t f) (place e) u t f g i (further_texts B b bs s r t f h i) v.1)))
