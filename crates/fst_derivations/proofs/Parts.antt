-- What the rules ask of types, of variables and of arms is determined.
use Rattle.std.specs.Prelude.{option_map, if◌then◌else◌}
use Rattle.std.proofs.Common.{◌≡◌, ◌∙◌, ℕ, Bool, true, false, List, [], ◌∷◌, Option, Some, None, refl, sym, ap, subst}
use Rattle.std.proofs.lemmas.Option.{same_Some}
use Rattle.fst_types.specs.Tree.{Tree, skip, send, receive, close, wait, select, offer, seq, rec, back, var, plain, arrow, pair, named, Branches, none, branch}
use Rattle.fst_types.specs.Order.{same_label}
use Rattle.fst_types.specs.Substitution.{substitute}
use Rattle.fst_types.specs.declared.label.Label.{Label}
use Rattle.fst_types.specs.declared.base.Base.{Base}
use Rattle.fst_types.specs.declared.kind.Kind.{Kind}
use Rattle.fst_types.specs.declared.kind.Use.{Use}
use Rattle.fst_types.specs.declared.kind.Use.TheVariants.{Many}
use Rattle.fst_types.specs.declared.label.Label.TheVariants.{Send, Receive, Select, Offer, Close, Wait, Var}
use Rattle.fst_kinds.specs.Kinds.{HasKind, top}
use Rattle.fst_kinds.proofs.Laws.{one_kind}
use Rattle.fst_types.proofs.Laws.{same_label-same}
use Rattle.fst_lts.specs.Step.{terminated, branch_at, followed, step_in, step}
use Rattle.fst_base.proofs.Options.{mapped_some}
use Rattle.fst_terms.specs.declared.binder.Binder.{Binder}
use Rattle.fst_context.specs.Scope.{Variable, is_once}
use Rattle.fst_context.specs.Vars.{Vars, under, outside}
use Rattle.fst_derivations.specs.Parts.{IsFormed, HasUse, AreAt, AreVariables, under_all}
use Rattle.fst_derivations.specs.Rules.{Surroundings, Binding, fields, rest, Binds}
use Rattle.fst_derivations.specs.Modules.{IsParameter}

-- a type has one use
pub one_use : (vars : List Kind) (t t' : Tree) (n n' : Use) → t ≡ t' → HasUse vars t n → HasUse vars t' n' → n ≡ n'
one_use vars t t' n n' e w w' =
    let kinds : w.kind ≡ w'.kind = one_kind vars t' w.kind w'.kind
    (subst (λ z. HasKind vars z w.kind) e w.formed.kinded) w'.formed.kinded in
    sym w.is ∙ ap (λ k. k.uses) kinds ∙ w'.is

-- the types of an equation's parameter are determined
pub one_parameter : {types : List Tree} {at k : ℕ} {uses : Use} {x : Binder} {t : Tree} (p q : IsParameter types at uses k x t) →
    (q.from ≡ p.from) × (q.to ≡ p.to)
one_parameter {uses = uses} p q = let arrows : arrow uses q.from q.to ≡ arrow uses p.from p.to = sym q.type ∙ p.type in (cc, cc)

-- the types with some numbers are determined
pub same_at : (types : List Tree) (ks : List ℕ) (ts ts' : List Tree) → AreAt types ks ts → AreAt types ks ts' → ts ≡ ts'
same_at types [] [] [] x y = refl
same_at types [] [] (t ∷ ts) x y = absurd y
same_at types [] (t ∷ ts) ts' x y = absurd x
same_at types (k ∷ ks) [] ts' x y = absurd x
same_at types (k ∷ ks) (t ∷ ts) [] x y = absurd y
same_at types (k ∷ ks) (t ∷ ts) (t' ∷ ts') x y =
    let first : t ≡ t' = same_Some t t' (sym x.0 ∙ y.0) in
    let rest = same_at types ks ts ts' x.1 y.1 in
    λ i. first i ∷ rest i

-- variables of the same types are the same
pub same_variables : (vars : List Kind) (ts ts' : List Tree) (vs vs' : List Variable) → ts ≡ ts' → AreVariables vars ts vs →
    AreVariables vars ts' vs' → vs ≡ vs'
same_variables vars ts ts' vs vs' e x y = go ts' vs vs' (subst (λ z. AreVariables vars z vs) e x) y
  where
    go : (ts : List Tree) (vs vs' : List Variable) → AreVariables vars ts vs → AreVariables vars ts vs' → vs ≡ vs'
    go [] [] [] x y = refl
    go [] [] (v ∷ vs') x y = absurd y
    go [] (v ∷ vs) vs' x y = absurd x
    go (t ∷ ts) [] vs' x y = absurd x
    go (t ∷ ts) (v ∷ vs) [] x y = absurd y
    go (t ∷ ts) (v ∷ vs) (w ∷ vs') x y =
        let types : v.type ≡ w.type = x.0 ∙ sym y.0 in
        let uses : v.uses ≡ w.uses = one_use vars t t v.uses w.uses refl x.1 y.1 in
        let rest = go ts vs vs' x.2 y.2 in
        λ i. record { type = types i; uses = uses i } ∷ rest i

-- sets that are the same inside binders are the same outside
pub outside_all : (vs : List Variable) (u v : Vars) → under_all vs u ≡ under_all vs v → u ≡ v
outside_all [] u v e = e
outside_all (x ∷ vs) u v e = ap outside (outside_all vs (under (is_once x.uses) u) (under (is_once x.uses) v) e)

-- what an arm binds is determined
pub one_bound : (m : Surroundings) (b b' : Binding) → b ≡ b' →
    (l : List ℕ) (ts ts' : List Tree) → Binds m b l ts → Binds m b' l ts' → ts ≡ ts'
one_bound m b b' e l ts ts' x y = go b' (subst (λ z. Binds m z l ts) e x) y
  where
    go : (b : Binding) → Binds m b l ts → Binds m b l ts' → ts ≡ ts'
    go (fields ms) (o, p, x) (o', p', y) =
        let makers : o ≡ o' = same_Some o o' (sym p ∙ p') in
        same_at m.types o'.fields.items ts ts' (subst (λ z. AreAt m.types z.fields.items ts) makers x) y
    go (rest s) (t, p, x) (t', p', y) =
        let types : t ≡ t' = same_Some t t' (sym p ∙ p') in
        x ∙ (λ i. types i ∷ []) ∙ sym y

-- ---- a type receives values of one type at most

-- a choice has no label of a message
no_branch : (make : List ℕ → Label) → ((l : List ℕ) (b : Base) → Receive b ≡ make l → ⊥) →
    (bs : Branches) (b : Base) (t : Tree) → branch_at make bs (Receive b) ≡ Some t → ⊥
no_branch make apart none b t e = cc e
no_branch make apart (branch l s bs) b t e = pick (no_branch make apart bs b t) (same_label (Receive b) (make l)) refl e
  where
    pick : (branch_at make bs (Receive b) ≡ Some t → ⊥) → (c : Bool) → same_label (Receive b) (make l) ≡ c →
        (if c then Some s else branch_at make bs (Receive b)) ≡ Some t → ⊥
    pick later true same e = apart l b (same_label-same (Receive b) (make l) same)
    pick later false same e = later e

-- a message, an end and a variable move by their own label alone
own_label : (a l : Label) (x t : Tree) → (if same_label a l then Some x else None) ≡ Some t → a ≡ l
own_label a l x t e = pick (same_label a l) refl e
  where
    pick : (c : Bool) → same_label a l ≡ c → (if c then Some x else None) ≡ Some t → a ≡ l
    pick true same e = same_label-same a l same
    pick false same e = absurd (cc e)

one_received : (env : List (Option Tree)) (s : Tree) (b b' : Base) (t t' : Tree) → step_in env s (Receive b) ≡ Some t →
    step_in env s (Receive b') ≡ Some t' → b ≡ b'
one_received env skip b b' t t' e f = absurd (cc e)
one_received env (send x) b b' t t' e f = absurd (cc (own_label (Receive b) (Send x) skip t e))
one_received env (receive x) b b' t t' e f =
    let left : Receive b ≡ Receive x = own_label (Receive b) (Receive x) skip t e in
    let right : Receive b' ≡ Receive x = own_label (Receive b') (Receive x) skip t' f in
    let same : Receive b ≡ Receive b' = left ∙ sym right in
    cc
one_received env close b b' t t' e f = absurd (cc (own_label (Receive b) Close skip t e))
one_received env wait b b' t t' e f = absurd (cc (own_label (Receive b) Wait skip t e))
one_received env (select bs) b b' t t' e f =
    let m = mapped_some (substitute env) (branch_at Select bs (Receive b)) t e in
    absurd (no_branch Select (λ l c h. cc h) bs b m.0 m.1)
one_received env (offer bs) b b' t t' e f =
    let m = mapped_some (substitute env) (branch_at Offer bs (Receive b)) t e in
    absurd (no_branch Offer (λ l c h. cc h) bs b m.0 m.1)
one_received env (seq s r) b b' t t' e f = pick (one_received env s) (one_received env r b b' t t') (terminated s) e f
  where
    pick : ((c c' : Base) (z z' : Tree) → step_in env s (Receive c) ≡ Some z → step_in env s (Receive c') ≡ Some z' → c ≡ c') →
        (step_in env r (Receive b) ≡ Some t → step_in env r (Receive b') ≡ Some t' → b ≡ b') → (c : Bool) →
        (if c then step_in env r (Receive b) else option_map (followed (Receive b) (substitute env r))
        (step_in env s (Receive b)))
        ≡ Some t →
        (if c then step_in env r (Receive b') else option_map (followed (Receive b') (substitute env r))
        (step_in env s (Receive b'))) ≡ Some
        t' → b ≡ b'
    pick front next true e f = next e f
    pick front next false e f =
        let m = mapped_some (followed (Receive b) (substitute env r)) (step_in env s (Receive b)) t e in
        let n = mapped_some (followed (Receive b') (substitute env r)) (step_in env s (Receive b')) t' f in
        front b b' m.0 n.0 m.1 n.1
one_received env (rec s) b b' t t' e f = one_received (Some (substitute env (rec s)) ∷ env) s b b' t t' e f
one_received env (back k) b b' t t' e f = absurd (cc e)
one_received env (var k) b b' t t' e f = absurd (cc (own_label (Receive b) (Var k) skip t e))
one_received env (plain x) b b' t t' e f = absurd (cc e)
one_received env (arrow u s r) b b' t t' e f = absurd (cc e)
one_received env (pair s r) b b' t t' e f = absurd (cc e)
one_received env (named k) b b' t t' e f = absurd (cc e)

-- a type receives values of one base type at most
pub one_step : (s s' : Tree) (b b' : Base) (t t' : Tree) → s ≡ s' → step s (Receive b) ≡ Some t → step s' (Receive b') ≡ Some t' →
    b ≡ b'
one_step s s' b b' t t' same e f = one_received [] s b b' t t' e (ap (λ z. step z (Receive b')) same ∙ f)

-- a base type is well formed
pub plain_formed : (vars : List Kind) (b : Base) → IsFormed vars (plain b)
plain_formed vars b = (top Many, record { kinded = refl; contractive = tt; scoped = tt; ordered = tt })
