-- What the calls that follow a derivation leave of a context.
use Rattle.std.proofs.Common.{◌≡◌, ◌∙◌, ◌<◌, ℕ, List, ◌∷◌, length, drop, ◌+◌, Option, Some, None, refl, sym, ap, subst, true, false, Bool, not, arith}
use Rattle.std.specs.Prelude.{IfSome, IfNone, is_none, if◌then◌else◌}
use Rattle.std.proofs.lemmas.List.{length-reverse}
use mathlib.Core.List.{reverse}
use Rattle.fst_types.specs.Tree.{Tree}
use Rattle.fst_terms.specs.CoreTree.{CoreTree}
use Rattle.fst_terms.specs.ModelCoreView.{core_arms_of}
use Rattle.fst_terms.specs.declared.binder.Binder.{Binder}
use Rattle.fst_terms.specs.declared.core_term.Arm.{Arm}
use Rattle.fst_context.specs.Scope.{Scope, Variable, at_or_not, entered, begun, with_marks}
use Rattle.fst_derivations.specs.Deriv.{Deriv, deriv_of, parts_of, type_of}
use Rattle.fst_derivations.specs.Rules.{Surroundings, Binding}
use Rattle.fst_fits.specs.Tests.{same_tree}
use Rattle.fst_derivations.specs.declared.derivation.Derivation.{Derivation}
use Rattle.fst_rules.specs.Walks.{Walk, next, only, further, arm_walk, bound_types, arms_walk, further_walk, inside, came, same_marks, agreed, branches, walk_of, Keeps}
use Rattle.fst_rules.proofs.Deciding.{next_some}
use Rattle.fst_rules.proofs.WalkedArms.{decides_arm}
use Rattle.fst_rules.proofs.DecidingInside.{agreed_some, decides_inside, marks_same, same_marks-itself}
use Rattle.fst_rules.proofs.Walked.{Part}
use Rattle.fst_rules.proofs.WalkedTerms.{keeps, takes_keep, derived}

-- what a walk that came to an end keeps
pub came_keeps : (m : Surroundings) (e : CoreTree) (d : Deriv) (s r : Scope) (b : Bool) → walk_of m e d s ≡ came b r → b ≡ true →
    Keeps s r
came_keeps m e d s r b h f = keeps m e d s r (h ∙ ap (λ c. came c r) f)

pub inside_keeps : (m : Surroundings) (x : List ℕ) (v : Variable) (e : CoreTree) (d : Deriv) (s r : Scope) (b : Bool) →
    inside x v (walk_of m e d) s ≡ came b r → b ≡ true → Keeps s r
inside_keeps m x v e d s r b h f =
    takes_keep s r ((decides_inside s.variables x v (Part m e (v ∷ s.variables) d) (walk_of m e d)
    (derived m e (v ∷ s.variables) d)).sound s r refl (h ∙ ap (λ c. came c r) f))

pub entered_there : (x : List ℕ) (v : Variable) (q s r : Scope) → s ≡ entered x v q → Keeps s r → 0 < length r.variables
entered_there x v q s r e k = let n = ap length (k.variables ∙ ap (λ z. z.variables) e) in omega (arith, n)

pub begun_there : (q s r : Scope) → s ≡ begun q → Keeps s r → 0 < length r.bodies
begun_there q s r e k = let n = ap length (k.bodies ∙ ap (λ z. z.bodies) e) in omega (arith, n)

-- ---- branches

pub marks_long : (bs : List Bool) (s r : Scope) → reverse bs ≡ s.there → Keeps s r → length bs ≡ length r.there
marks_long bs s r e k = sym (length-reverse bs) ∙ ap length e ∙ sym k.marks

pub restored : (bs : List Bool) (s r x : Scope) → reverse bs ≡ s.there → Keeps s r → x ≡ with_marks (reverse bs) r → x ≡ s
restored bs s r x e k is = is ∙ (λ i. record { names = k.names i; variables = k.variables i; there = e i; bodies = k.bodies i })

pub branches_none : (F G : Walk) (s r x y : Scope) (b c : Bool) → F s ≡ came b r → b ≡ true → x ≡ s → G x ≡ came c y → c ≡ false →
    branches F G s ≡ None
branches_none F G s r x y b c f on e g off =
    ap (λ o. next o (λ z. next (G s) (agreed z.there))) (f ∙ ap (λ k. came k r) on) ∙ ap
    (λ o. next o (agreed r.there)) (ap G (sym e) ∙ g ∙ ap (λ k. came k y) off)

marks_by : (bs cs ms : List Bool) (o : Option ℕ) → reverse ms ≡ cs → IfNone o (bs ≡ reverse ms) → IfSome o
    (λ k. at_or_not bs k ≡ at_or_not (reverse ms) k → ⊥) → same_marks bs cs ≡ is_none o
marks_by bs cs ms None e same other = ap (λ z. same_marks z cs) (same ∙ e) ∙ same_marks-itself cs
marks_by bs cs ms (Some k) e same other = pick (same_marks bs cs) refl
  where
    pick : (b : Bool) → same_marks bs cs ≡ b → b ≡ false
    pick true h = absurd (other (ap (λ z. at_or_not z k) (marks_same bs cs h ∙ sym e)))
    pick false h = refl

agreed_came : (b : Bool) (s : Scope) → (if b then Some s else None) ≡ came b s
agreed_came true s = refl
agreed_came false s = refl

pub branches_done : (F G : Walk) (s r x y : Scope) (b c : Bool) (ms : List Bool) (o : Option ℕ) → F s ≡ came b r → b ≡ true →
    x ≡ s → G x ≡ came c y → c ≡ true →
    reverse ms ≡ r.there → IfNone o (y.there ≡ reverse ms) → IfSome o (λ k. at_or_not y.there k ≡ at_or_not (reverse ms) k → ⊥) →
    branches F G s ≡ came (is_none o) y
branches_done F G s r x y b c ms o f on e g there marks same other =
    ap (λ o. next o (λ z. next (G s) (agreed z.there))) (f ∙ ap (λ k. came k r) on)
    ∙ ap (λ o. next o (agreed r.there)) (ap G (sym e) ∙ g ∙ ap (λ k. came k y) there)
    ∙ ap (λ k. if k then Some y else None) (marks_by y.there r.there ms o marks same other) ∙ agreed_came (is_none o) y

pub not_back : (b c : Bool) → not b ≡ c → not c ≡ b
not_back true c h = ap not (sym h)
not_back false c h = ap not (sym h)

-- ---- arms

pub arm_keeps : (m : Surroundings) (B : Binding) (l : List ℕ) (xs : List Binder) (e : CoreTree) (d : Deriv) (s r : Scope)
    (b : Bool) →
    arm_walk m.vars (bound_types m B l) xs (walk_of m e d) s ≡ came b r → b ≡ true → Keeps s r
arm_keeps m B l xs e d s r b h f = takes_keep s r
    ((decides_arm m B l xs e (derived m e) s.variables d).sound s r refl (h ∙ ap (λ c. came c r) f))

pub further_done : (G : Walk) (s r y : Scope) (c : Bool) (ms : List Bool) (o : Option ℕ) → G s ≡ came c y → c ≡ true →
    reverse ms ≡ r.there → IfNone o (y.there ≡ reverse ms) → IfSome o (λ k. at_or_not y.there k ≡ at_or_not (reverse ms) k → ⊥) →
    further G s r ≡ came (is_none o) y
further_done G s r y c ms o g there marks same other =
    ap (λ o. next o (agreed r.there)) (g ∙ ap (λ k. came k y) there)
    ∙ ap (λ k. if k then Some y else None) (marks_by y.there r.there ms o marks same other) ∙ agreed_came (is_none o) y

pub further_keeps : (m : Surroundings) (B : Binding) (l : List ℕ) (xs : List Binder) (e : CoreTree) (d : Deriv) (s r y : Scope)
    (b : Bool) →
    further (arm_walk m.vars (bound_types m B l) xs (walk_of m e d)) s r ≡ came b y → b ≡ true → Keeps s y
further_keeps m B l xs e d s r y b h f =
    let n = next_some (arm_walk m.vars (bound_types m B l) xs (walk_of m e d) s) (agreed r.there) y (h ∙ ap (λ c. came c y) f) in
    let c = agreed_some (same_marks n.0.there r.there) n.0 y n.2 in
    subst (Keeps s) c.1 (arm_keeps m B l xs e d s n.0 true n.1 refl)

-- a scope with other marks, where these are those of the scope that it comes from
pub marked_again : (bs : List Bool) (q r : Scope) → Keeps (with_marks bs q) r → with_marks bs r ≡ with_marks bs q
marked_again bs q r k = λ i. record { names = k.names i; variables = k.variables i; there = bs; bodies = k.bodies i }

pub marked_back : (bs : List Bool) (s r : Scope) → reverse bs ≡ s.there → Keeps s r → with_marks (reverse bs) r ≡ s
marked_back bs s r e k = λ i. record { names = k.names i; variables = k.variables i; there = e i; bodies = k.bodies i }

pub further_step : (m : Surroundings) (B : Binding) (t : Tree) (s : Scope) (bs : List Arm) (ps : List Derivation) (i : ℕ)
    (a : Arm) (p : Derivation) (r y : Scope) (b c : Bool) →
    drop i bs ≡ a ∷ drop (i + 1) bs → drop i ps ≡ p ∷ drop (i + 1) ps → b ≡ same_tree (type_of (deriv_of p)) t → b ≡ true →
    further (arm_walk m.vars (bound_types m B a.label) a.binders.items (walk_of m a.body (deriv_of p))) s r ≡ came c y →
    c ≡ true →
    further_walk m B (core_arms_of (drop i bs)) t (parts_of (drop i ps)) s r ≡ further_walk m B (core_arms_of (drop (i + 1) bs)) t
    (parts_of (drop (i + 1) ps)) s y
further_step m B t s bs ps i a p r y b c arms parts e same h f =
    (λ j. further_walk m B (core_arms_of (arms j)) t (parts_of (parts j)) s r)
    ∙ ap (λ k. only k (λ z. next (further (arm_walk m.vars (bound_types m B a.label) a.binders.items
    (walk_of m a.body (deriv_of p))) s z) (further_walk m B (core_arms_of (drop (i + 1) bs)) t
    (parts_of (drop (i + 1) ps)) s)) r)
    (sym e ∙ same)
    ∙ ap (λ o. next o (further_walk m B (core_arms_of (drop (i + 1) bs)) t (parts_of (drop (i + 1) ps)) s))
    (h ∙ ap (λ k. came k y) f)

pub arms_step : (m : Surroundings) (B : Binding) (t : Tree) (s r : Scope) (bs cs : List Arm) (ps qs : List Derivation) (a : Arm)
    (p : Derivation) (b c : Bool) →
    bs ≡ a ∷ cs → ps ≡ p ∷ qs → b ≡ same_tree (type_of (deriv_of p)) t → b ≡ true →
    arm_walk m.vars (bound_types m B a.label) a.binders.items (walk_of m a.body (deriv_of p)) s ≡ came c r → c ≡ true →
    arms_walk m B (core_arms_of bs) t (parts_of ps) s ≡ further_walk m B (core_arms_of cs) t (parts_of qs) s r
arms_step m B t s r bs cs ps qs a p b c arms parts e same h f =
    (λ j. arms_walk m B (core_arms_of (arms j)) t (parts_of (parts j)) s)
    ∙ ap (λ k. only k (λ z. next (arm_walk m.vars (bound_types m B a.label) a.binders.items (walk_of m a.body (deriv_of p)) z)
    (further_walk m B (core_arms_of cs) t (parts_of qs) z)) s) (sym e ∙ same)
    ∙ ap (λ o. next o (further_walk m B (core_arms_of cs) t (parts_of qs) s)) (h ∙ ap (λ k. came k r) f)
