-- The kind of a type in which types are put for recursion variables.
use Rattle.std.proofs.Common.{◌≡◌, ℕ, zero, suc, List, [], ◌∷◌, true, Option, Some, None, refl, sym, ap, subst}
use Rattle.fst_types.specs.Tree.{Tree, skip, send, receive, close, wait, select, offer, seq, rec, back, var, plain, arrow, pair, named, Branches, none, branch}
use Rattle.fst_types.specs.declared.kind.Kind.{Kind}
use Rattle.fst_types.specs.declared.kind.Use.{Use}
use Rattle.fst_types.specs.declared.kind.Use.TheVariants.{Many, Once}
use Rattle.fst_types.specs.Substitution.{variable, substitute, substitute_all, EnvHas}
use Rattle.fst_kinds.specs.Kinds.{session, use_below, join, HasKind, AllSessions}

-- two uses that are below each other are one
pub use_antisymmetric : (u v : Use) → use_below u v ≡ true → use_below v u ≡ true → u ≡ v
use_antisymmetric Many Many a b = refl
use_antisymmetric Many Once a b = absurd (cc b)
use_antisymmetric Once Many a b = absurd (cc a)
use_antisymmetric Once Once a b = refl

-- each use is below itself
pub below_itself : (u : Use) → use_below u u ≡ true
below_itself Many = refl
below_itself Once = refl

below_join : (u w : Use) → use_below u (join u w) ≡ true
below_join Many w = refl
below_join Once w = refl

-- a use joined with itself is the use
pub join_itself : (u : Use) → join u u ≡ u
join_itself Many = refl
join_itself Once = refl

-- what is below two uses joins to what is below their join
pub join_below : (u v a b : Use) → use_below u a ≡ true → use_below v b ≡ true → use_below (join u v) (join a b) ≡ true
join_below Many Many a b e f = refl
join_below Many Once Many b e f = f
join_below Many Once Once b e f = refl
join_below Once v Many b e f = absurd (cc e)
join_below Once v Once b e f = refl

join_within : (u v w a b : Use) → use_below a (join u w) ≡ true → use_below b (join v w) ≡ true →
    use_below (join a b) (join (join u v) w) ≡ true
join_within Many Many w Many b e f = f
join_within Many Many w Once b e f = e
join_within Many Once w Many Many e f = refl
join_within Many Once w Many Once e f = refl
join_within Many Once w Once b e f = refl
join_within Once v w Many Many e f = refl
join_within Once v w Many Once e f = refl
join_within Once v w Once b e f = refl

-- k with other uses
abbrev pub used : Kind → Use → Kind
used k u = record { prekind = k.prekind; uses = u }

-- a session type whose uses are below w
abbrev pub SessionUpTo : List Kind → Use → Tree → Type 0
SessionUpTo vars w t = (u : Use) × HasKind vars t (session u) × (use_below u w ≡ true)

-- the kind k, with the same uses or with more, and no more than w adds
abbrev pub KindFrom : List Kind → Use → Kind → Tree → Type 0
KindFrom vars w k t = (u : Use) × HasKind vars t (used k u) × (use_below k.uses u ≡ true) × (use_below u (join k.uses w) ≡ true)

same_kind : (vars : List Kind) (w : Use) (k : Kind) (t : Tree) → HasKind vars t k → KindFrom vars w k t
same_kind vars w k t h = (k.uses, h, below_itself k.uses, below_join k.uses w)

variable_kind : (vars : List Kind) (w : Use) (env : List (Option Tree)) (n : ℕ) (t : Tree) (k : Kind) →
    EnvHas (SessionUpTo vars w) env → HasKind vars t k → k ≡ session Many → KindFrom vars w k (variable env n t)
variable_kind vars w [] n t k e h is = same_kind vars w k t h
variable_kind vars w (None ∷ env) zero t k e h is = same_kind vars w k t h
variable_kind vars w (Some s ∷ env) zero t k e h is =
    let u = e.0.0 in (
      u,
      subst (λ i. HasKind vars s (used i u)) (sym is) e.0.1,
      subst (λ i. use_below i.uses u ≡ true) (sym is) refl,
      subst
          (λ i. use_below u (join i.uses w) ≡ true) (sym is) e.0.2,
    )
variable_kind vars w (o ∷ env) (suc n) t k e h is = variable_kind vars w env n t k e.1 h is

mutual
  -- a type keeps its kind, but for the uses of what is put in
  pub substitute_kind : (vars : List Kind) (w : Use) (env : List (Option Tree)) (s : Tree) (k : Kind) →
      EnvHas (SessionUpTo vars w) env → HasKind vars s k → KindFrom vars w k (substitute env s)
  substitute_kind vars w env skip k e h = same_kind vars w k skip h
  substitute_kind vars w env (send b) k e h = same_kind vars w k (send b) h
  substitute_kind vars w env (receive b) k e h = same_kind vars w k (receive b) h
  substitute_kind vars w env close k e h = same_kind vars w k close h
  substitute_kind vars w env wait k e h = same_kind vars w k wait h
  substitute_kind vars w env (select bs) k e h =
      same_kind vars w k (select (substitute_all env bs)) (substitute_sessions vars w env bs e h.0, h.1)
  substitute_kind vars w env (offer bs) k e h =
      same_kind vars w k (offer (substitute_all env bs)) (substitute_sessions vars w env bs e h.0, h.1)
  substitute_kind vars w env (seq s r) k e h =
      let u = h.0 in
      let v = h.1 in
      let first = substitute_kind vars w env s (session u) e h.2 in
      let second = substitute_kind vars w env r (session v) e h.3 in
      let is : join u v ≡ k.uses = ap (λ (i : Kind). i.uses) (sym h.4) in
      let new = join first.0 second.0 in (
        new,
        (first.0, second.0, first.1, second.1, ap (λ (i : Kind). used i new) h.4),
        subst (λ x. use_below x new ≡ true) is (join_below u v first.0 second.0 first.2 second.2),
        subst (λ x. use_below new (join x w) ≡ true) is (join_within u v w first.0 second.0 first.3 second.3),
      )
  substitute_kind vars w env (rec s) k e h =
      let body = substitute_kind vars w (None ∷ env) s k (tt, e) h.0 in
      (body.0, (body.1, h.1), body.2, body.3)
  substitute_kind vars w env (back n) k e h = variable_kind vars w env n (back n) k e h h
  substitute_kind vars w env (var n) k e h = same_kind vars w k (var n) h
  substitute_kind vars w env (plain b) k e h = same_kind vars w k (plain b) h
  substitute_kind vars w env (arrow u s r) k e h =
      let first = substitute_kind vars w env s h.0.0 e h.0.1 in
      let second = substitute_kind vars w env r h.1.0 e h.1.1 in
      same_kind vars w k (arrow u (substitute env s) (substitute env r))
      ((used h.0.0 first.0, first.1), (used h.1.0 second.0, second.1), h.2)
  substitute_kind vars w env (pair s r) k e h =
      let i = h.0 in
      let j = h.1 in
      let first = substitute_kind vars w env s i e h.2 in
      let second = substitute_kind vars w env r j e h.3 in
      let is : join i.uses j.uses ≡ k.uses = ap (λ (i : Kind). i.uses) (sym h.4) in
      let new = join first.0 second.0 in (
        new,
        (used i first.0, used j second.0, first.1, second.1, ap (λ (i : Kind). used i new) h.4),
        subst (λ x. use_below x new ≡ true) is (join_below i.uses j.uses first.0 second.0 first.2 second.2),
        subst (λ x. use_below new (join x w) ≡ true) is (join_within i.uses j.uses w first.0 second.0 first.3 second.3),
      )
  substitute_kind vars w env (named n) k e h = same_kind vars w k (named n) h

  substitute_sessions : (vars : List Kind) (w : Use) (env : List (Option Tree)) (bs : Branches) →
      EnvHas (SessionUpTo vars w) env → AllSessions vars bs → AllSessions vars (substitute_all env bs)
  substitute_sessions vars w env none e h = tt
  substitute_sessions vars w env (branch l s bs) e h =
      let first = substitute_kind vars w env s (session h.0.0) e h.0.1 in
      ((first.0, first.1), substitute_sessions vars w env bs e h.1)

-- what holds of all that the binders stand for, so does what follows from it
pub env_has : (P Q : Tree → Type 0) → ((t : Tree) → P t → Q t) → (env : List (Option Tree)) → EnvHas P env → EnvHas Q env
env_has P Q f [] e = tt
env_has P Q f (None ∷ env) e = (tt, env_has P Q f env e.1)
env_has P Q f (Some t ∷ env) e = (f t e.0, env_has P Q f env e.1)

-- each use is below a single one
pub below_once : (u : Use) → use_below u Once ≡ true
below_once Many = refl
below_once Once = refl
