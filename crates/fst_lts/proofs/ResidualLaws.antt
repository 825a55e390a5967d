-- What moves leave of a session type is one, and one without labels is terminated.
use Rattle.std.proofs.Common.{◌≡◌, ◌∙◌, ◌≤◌, ℕ, suc, List, [], ◌∷◌, length, Bool, true, false, Option, Some, None, refl, sym, ap, arith}
use Rattle.std.specs.Prelude.{◌&&◌, option_map, option_and_then, if◌then◌else◌, IfSome, IsTrue, ◌↔◌}
use Rattle.fst_types.specs.Tree.{Tree, skip, send, receive, close, wait, select, offer, seq, rec, back, var, plain, arrow, pair, named, Branches, none, branch}
use Rattle.fst_types.specs.declared.kind.Kind.{Kind}
use Rattle.fst_types.specs.declared.kind.Use.TheVariants.{Many}
use Rattle.fst_types.specs.declared.label.Label.{Label}
use Rattle.fst_types.specs.declared.label.Label.TheVariants.{Send, Receive, Select, Offer, Close, Wait, Var}
use Rattle.fst_types.specs.Order.{same_label, AllOrdered, AreRising}
use Rattle.fst_types.specs.Scoped.{AllScoped}
use Rattle.fst_types.specs.Substitution.{substitute}
use Rattle.fst_kinds.specs.Kinds.{join, AllSessions}
use Rattle.fst_kinds.specs.Contractive.{guards, AllContractive, IsGuarded}
use Rattle.fst_kinds.specs.WellFormed.{IsSession}
use Rattle.fst_kinds.proofs.Laws.{not_top, unreached, substitute_guards, opened, open_first, open_second, open_body, unguarded_body, substitute_session}
use Rattle.fst_kinds.specs.OpenSession.{GuardsTo, IsOpenSession, IsPut}
use Rattle.fst_lts.specs.Step.{terminated, branch_at, step_in, step, labels, choice_labels, is_end, followed}
use Rattle.fst_base.specs.Agreement.{residual}
use Rattle.fst_lts.proofs.GuardLaws.{guarded_first, guarded_second, guarded_body, no_variable}
use Rattle.std.proofs.lemmas.Bool.{and_parts}

-- a move leaves a session type
skip_session : (vars : List Kind) → IsSession vars skip
skip_session vars = (Many, record { kinded = refl; contractive = tt; scoped = tt; ordered = tt })

skip_if_session : (vars : List Kind) (c : Bool) → IfSome (if c then Some skip else None) (IsSession vars)
skip_if_session vars true = skip_session vars
skip_if_session vars false = tt

-- two session types, one behind the other, are a session type
pub seq_session : (vars : List Kind) (s r : Tree) → IsSession vars s → IsSession vars r → IsSession vars (seq s r)
seq_session vars s r h g = (
  join h.0 g.0,
  record {
    kinded = (h.0, g.0, h.1.kinded, g.1.kinded, refl);
    contractive = (h.1.contractive, g.1.contractive);
    scoped = (h.1.scoped, g.1.scoped);
    ordered = (h.1.ordered, g.1.ordered);
  },
)

-- what is left of a session type after a label, with another one behind it, is a session type
pub followed_session : (vars : List Kind) (a : Label) (r t : Tree) → IsSession vars t → IsSession vars r →
    IsSession vars (followed a r t)
followed_session vars a r t h g = pick (is_end a)
  where
    pick : (c : Bool) → IsSession vars (if c then skip else seq t r)
    pick true = skip_session vars
    pick false = seq_session vars t r h g

branch_session : (vars : List Kind) (n : ℕ) (env : List (Option Tree)) (make : List ℕ → Label) (bs : Branches) (a : Label) →
    IsPut vars n env → AllSessions vars bs → AllContractive bs → AllScoped n bs → AllOrdered bs →
    IfSome (option_map (substitute env) (branch_at make bs a)) (IsSession vars)
branch_session vars n env make none a p k c h o = tt
branch_session vars n env make (branch l s bs) a p k c h o =
    pick (branch_session vars n env make bs a p k.1 c.1 h.1 o.1) (same_label a (make l))
  where
    pick : IfSome (option_map (substitute env) (branch_at make bs a)) (IsSession vars) →
        (b : Bool) → IfSome (option_map (substitute env) (if b then Some s else branch_at make bs a)) (IsSession vars)
    pick next true = substitute_session vars n env s p (record { kinded = k.0; contractive = c.0; scoped = h.0; ordered = o.0 })
    pick next false = next

-- a step of an open session type, with session types for its variables, leaves a session type
pub step_in_session : (vars : List Kind) (n : ℕ) (env : List (Option Tree)) (s : Tree) (a : Label) → IsPut vars n env →
    IsOpenSession vars n s → IfSome (step_in env s a) (IsSession vars)
step_in_session vars n env skip a p h = tt
step_in_session vars n env (send b) a p h = skip_if_session vars (same_label a (Send b))
step_in_session vars n env (receive b) a p h = skip_if_session vars (same_label a (Receive b))
step_in_session vars n env close a p h = skip_if_session vars (same_label a Close)
step_in_session vars n env wait a p h = skip_if_session vars (same_label a Wait)
step_in_session vars n env (select bs) a p h =
    branch_session vars n env Select bs a p h.kinded.1.0 h.contractive h.scoped h.ordered.1
step_in_session vars n env (offer bs) a p h = branch_session vars n env Offer bs a p h.kinded.1.0 h.contractive h.scoped
    h.ordered.1
step_in_session vars n env (seq s r) a p h =
    pick (step_in_session vars n env r a p (open_second vars n s r h)) (step_in env s a)
    (step_in_session vars n env s a p (open_first vars n s r h)) (terminated s)
  where
    pick : IfSome (step_in env r a) (IsSession vars) → (o : Option Tree) → IfSome o (IsSession vars) → (c : Bool) →
        IfSome (if c then step_in env r a else option_map (followed a (substitute env r)) o) (IsSession vars)
    pick second o first true = second
    pick second None first false = tt
    pick second (Some t) first false = followed_session vars a (substitute env r) t first
        (substitute_session vars n env r p (open_second vars n s r h))
step_in_session vars n env (rec s) a p h =
    pick (λ m. step_in_session vars m (Some (substitute env (rec s)) ∷ env) s a) (guards s) refl
  where
    whole : IsSession vars (substitute env (rec s))
    whole = substitute_session vars n env (rec s) p h

    put : (m : ℕ) → m ≤ suc (length env) → GuardsTo m (Some (substitute env (rec s)) ∷ env) →
        IsPut vars m (Some (substitute env (rec s)) ∷ env)
    put m le g = record { closed = (whole.1.scoped, p.closed); sessions = (whole, p.sessions); enough = le; guarded = g }

    pick : ((m : ℕ) → IsPut vars m (Some (substitute env (rec s)) ∷ env) → IsOpenSession vars m s →
        IfSome (step_in env (rec s) a) (IsSession vars)) →
        (b : Bool) → guards s ≡ b → IfSome (step_in env (rec s) a) (IsSession vars)
    pick next true is = next (suc n) (put (suc n) (omega (arith, p.enough))
        (substitute_guards n env (rec s) p.guarded h.scoped is, p.guarded)) (open_body vars n s h)
    pick next false is = next 0 (put 0 (omega arith) tt) (unguarded_body vars n s h is)
step_in_session vars n env (back k) a p h = tt
step_in_session vars n env (var k) a p h = skip_if_session vars (same_label a (Var k))
step_in_session vars n env (plain b) a p h = tt
step_in_session vars n env (arrow u s r) a p h = tt
step_in_session vars n env (pair s r) a p h = tt
step_in_session vars n env (named k) a p h = tt

-- the type after a label is a session type if the type is one
pub step_session : (vars : List Kind) (s : Tree) (a : Label) → IsSession vars s → IfSome (step s a) (IsSession vars)
step_session vars s a h = step_in_session vars 0 [] s a
    (record { closed = tt; sessions = tt; enough = omega arith; guarded = tt }) (opened vars s h)

-- what a trace leaves is a session type if the type is one
pub residual_session : (vars : List Kind) (w : List Label) (s : Tree) → IsSession vars s →
    IfSome (residual step s w) (IsSession vars)
residual_session vars [] s h = h
residual_session vars (a ∷ w) s h = pick (residual_session vars w) (step s a) (step_session vars s a h)
  where
    pick : ((t : Tree) → IsSession vars t → IfSome (residual step t w) (IsSession vars)) →
        (o : Option Tree) → IfSome o (IsSession vars) → IfSome (option_and_then (λ t. residual step t w) o) (IsSession vars)
    pick rest None g = tt
    pick rest (Some t) g = rest t g

choice_labelled : (make : List ℕ → Label) (bs : Branches) → AreRising bs → choice_labels make bs ≡ [] → ⊥
choice_labelled make none o e = absurd o
choice_labelled make (branch l s bs) o e = absurd (cc e)

unlabelled_ends : (vars : List Kind) (n : ℕ) (s : Tree) → IsOpenSession vars n s → IsGuarded s → labels s ≡ [] →
    terminated s ≡ true
unlabelled_ends vars n skip h g e = refl
unlabelled_ends vars n (send b) h g e = absurd (cc e)
unlabelled_ends vars n (receive b) h g e = absurd (cc e)
unlabelled_ends vars n close h g e = absurd (cc e)
unlabelled_ends vars n wait h g e = absurd (cc e)
unlabelled_ends vars n (select bs) h g e = absurd (choice_labelled Select bs h.ordered.0 e)
unlabelled_ends vars n (offer bs) h g e = absurd (choice_labelled Offer bs h.ordered.0 e)
unlabelled_ends vars n (seq s r) h g e =
    pick (unlabelled_ends vars n s (open_first vars n s r h) (guarded_first s r g))
    (unlabelled_ends vars n r (open_second vars n s r h)) (terminated s) refl e
  where
    pick : (labels s ≡ [] → terminated s ≡ true) → (IsGuarded r → labels r ≡ [] → terminated r ≡ true) →
        (c : Bool) → terminated s ≡ c → (if c then labels r else labels s) ≡ [] → terminated s && terminated r ≡ true
    pick first second true is e = λ i. is i && second (guarded_second s r g is) e i
    pick first second false is e = absurd (cc (sym is ∙ first e))
unlabelled_ends vars n (rec s) h g e = unlabelled_ends vars (suc n) s (open_body vars n s h) (guarded_body s h.contractive.1 g) e
unlabelled_ends vars n (back k) h g e = absurd (no_variable k g)
unlabelled_ends vars n (var k) h g e = absurd (cc e)
unlabelled_ends vars n (plain b) h g e = not_top h.kinded.0 Many h.kinded.1
unlabelled_ends vars n (arrow u s r) h g e = not_top h.kinded.0 u h.kinded.1.2
unlabelled_ends vars n (pair s r) h g e = not_top h.kinded.0 _ h.kinded.1.4
unlabelled_ends vars n (named k) h g e = not_top h.kinded.0 Many h.kinded.1

-- a session type by no label of which a move begins is terminated
pub unlabelled_terminated : (vars : List Kind) (s : Tree) → IsSession vars s → labels s ≡ [] → terminated s ≡ true
unlabelled_terminated vars s h e = unlabelled_ends vars 0 s (opened vars s h) (λ k. unreached s 0 k h.1.scoped (omega arith)) e

-- a terminated type has no labels
pub terminated_unlabelled : (s : Tree) → terminated s ≡ true → labels s ≡ []
terminated_unlabelled skip e = refl
terminated_unlabelled (send b) e = absurd (cc e)
terminated_unlabelled (receive b) e = absurd (cc e)
terminated_unlabelled close e = absurd (cc e)
terminated_unlabelled wait e = absurd (cc e)
terminated_unlabelled (select bs) e = absurd (cc e)
terminated_unlabelled (offer bs) e = absurd (cc e)
terminated_unlabelled (seq s r) e =
    let h = and_parts (terminated s) (terminated r) e in
    ap (λ c. if c then labels r else labels s) h.0 ∙ terminated_unlabelled r h.1
terminated_unlabelled (rec s) e = terminated_unlabelled s e
terminated_unlabelled (back k) e = refl
terminated_unlabelled (var k) e = absurd (cc e)
terminated_unlabelled (plain b) e = refl
terminated_unlabelled (arrow u s r) e = refl
terminated_unlabelled (pair s r) e = refl
terminated_unlabelled (named k) e = refl

-- a session type is terminated exactly where it has no labels
pub terminated_exactly : (vars : List Kind) (s : Tree) → IsSession vars s → IsTrue (terminated s) ↔ (labels s ≡ [])
terminated_exactly vars s h = (terminated_unlabelled s, unlabelled_terminated vars s h)
