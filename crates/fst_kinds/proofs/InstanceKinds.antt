-- The kind of an instance.
use Rattle.std.proofs.Common.{◌≡◌, ℕ, zero, suc, List, [], ◌∷◌, true, Some, refl, sym, ap, subst}
use Rattle.std.specs.Prelude.{◌&&◌, slice_get, unwrap_or}
use Rattle.std.proofs.lemmas.Bool.{and_parts}
use Rattle.fst_types.specs.Tree.{Tree, skip, send, receive, close, wait, select, offer, seq, rec, back, var, plain, arrow, pair, named, Branches, none, branch}
use Rattle.fst_types.specs.declared.kind.Kind.{Kind}
use Rattle.fst_types.specs.declared.kind.Prekind.{Prekind}
use Rattle.fst_types.specs.declared.kind.Prekind.TheVariants.{Session, Top}
use Rattle.fst_types.specs.declared.kind.Use.{Use}
use Rattle.fst_types.specs.Instance.{argument, instantiated, instantiated_all, ArgumentsHave}
use Rattle.fst_kinds.specs.Kinds.{session, top, subkind, prekind_below, use_below, join, HasKind, AllSessions}
use Rattle.fst_kinds.specs.WellFormed.{IsWellFormed, IsInstance, IsInstantiation}
use Rattle.fst_kinds.proofs.SubstitutedKinds.{below_itself, join_below}
use Rattle.fst_kinds.proofs.UnfoldLaws.{session_of}

prekind_itself : (p : Prekind) → prekind_below p p ≡ true
prekind_itself Session = refl
prekind_itself Top = refl

-- each kind is below itself
pub subkind_itself : (k : Kind) → subkind k k ≡ true
subkind_itself k = λ i. prekind_itself k.prekind i && below_itself k.uses i

below_prekind : (p q : Prekind) → prekind_below p q ≡ true → q ≡ Session → p ≡ Session
below_prekind Session q e is = refl
below_prekind Top Session e is = absurd (cc e)
below_prekind Top Top e is = is

-- a kind below that of a session type is one of a session type
pub session_within : (j : Kind) (u : Use) → subkind j (session u) ≡ true → (j ≡ session j.uses) × (use_below j.uses u ≡ true)
session_within j u e =
    let both = and_parts (prekind_below j.prekind Session) (use_below j.uses u) e in
    (session_of j (below_prekind j.prekind Session both.0 refl), both.1)

-- the prekind of a kind below that of a session type
session_prekind : (j k : Kind) → subkind j k ≡ true → k.prekind ≡ Session → j.prekind ≡ Session
session_prekind j k e is = below_prekind j.prekind k.prekind
    (and_parts (prekind_below j.prekind k.prekind) (use_below j.uses k.uses) e).0 is

-- what a variable of a kind gets
pub put_at : (outer vars : List Kind) (args : List Tree) (n : ℕ) (k : Kind) → IsInstantiation outer vars args →
    slice_get vars n ≡ Some k →
    (t : Tree) × (slice_get args n ≡ Some t) × IsInstance outer k t
put_at outer [] [] n k c e = absurd (cc e)
put_at outer [] (t ∷ args) n k c e = absurd c
put_at outer (i ∷ vars) [] n k c e = absurd c
put_at outer (i ∷ vars) (t ∷ args) zero k c e =
    let is : i ≡ k = cc in
    (t, refl, subst (λ j. IsInstance outer j t) is c.0)
put_at outer (i ∷ vars) (t ∷ args) (suc n) k c e = put_at outer vars args n k c.1 e

put_argument : (outer vars : List Kind) (args : List Tree) (n : ℕ) (k : Kind) → IsInstantiation outer vars args →
    slice_get vars n ≡ Some k → IsInstance outer k (argument args n)
put_argument outer vars args n k c e =
    let found = put_at outer vars args n k c e in
    let is : found.0 ≡ argument args n = ap (λ o. unwrap_or o (var n)) (sym found.1) in
    subst (λ t. IsInstance outer k t) is found.2

got : (P : Tree → Type 0) (outer vars : List Kind) (args : List Tree) →
    ((t : Tree) (i : Kind) → IsWellFormed outer t i → P t) → IsInstantiation outer vars args → (t : Tree) → P t →
    (k : ℕ) → P (unwrap_or (slice_get args k) t)
got P outer [] [] f c t h k = h
got P outer [] (x ∷ args) f c t h k = absurd c
got P outer (i ∷ vars) [] f c t h k = absurd c
got P outer (i ∷ vars) (x ∷ args) f c t h zero = f x c.0.kind c.0.well_formed
got P outer (i ∷ vars) (x ∷ args) f c t h (suc k) = got P outer vars args f c.1 t h k

-- what holds of variables and of well-formed types holds of all that an instantiation puts for variables
pub put_have : (P : Tree → Type 0) (outer vars : List Kind) (args : List Tree) → ((k : ℕ) → P (var k)) →
    ((t : Tree) (i : Kind) → IsWellFormed outer t i → P t) →
    IsInstantiation outer vars args → ArgumentsHave P args
put_have P outer vars args v f c k = got P outer vars args f c (var k) (v k) k

-- the type has a kind below k
abbrev pub KindBelow : List Kind → Kind → Tree → Type 0
KindBelow outer k t = (j : Kind) × HasKind outer t j × (subkind j k ≡ true)

mutual
  -- an instance has a kind below that of the type
  pub instantiated_kind : (outer vars : List Kind) (args : List Tree) (s : Tree) (k : Kind) → IsInstantiation outer vars args →
      HasKind vars s k → KindBelow outer k (instantiated args s)
  instantiated_kind outer vars args skip k c h = (k, h, subkind_itself k)
  instantiated_kind outer vars args (send b) k c h = (k, h, subkind_itself k)
  instantiated_kind outer vars args (receive b) k c h = (k, h, subkind_itself k)
  instantiated_kind outer vars args close k c h = (k, h, subkind_itself k)
  instantiated_kind outer vars args wait k c h = (k, h, subkind_itself k)
  instantiated_kind outer vars args (select bs) k c h =
      (k, (instantiated_sessions outer vars args bs c h.0, h.1), subkind_itself k)
  instantiated_kind outer vars args (offer bs) k c h =
      (k, (instantiated_sessions outer vars args bs c h.0, h.1), subkind_itself k)
  instantiated_kind outer vars args (seq s r) k c h =
      let first = instantiated_kind outer vars args s (session h.0) c h.2 in
      let second = instantiated_kind outer vars args r (session h.1) c h.3 in
      let i = session_within first.0 h.0 first.2 in
      let j = session_within second.0 h.1 second.2 in
      let u = join first.0.uses second.0.uses in (
        session u,
        (
          first.0.uses,
          second.0.uses,
          subst (λ x. HasKind outer (instantiated args s) x) i.0 first.1,
          subst
              (λ x. HasKind outer (instantiated args r) x) j.0 second.1,
          refl,
        ),
        subst (λ x. subkind (session u) x ≡ true) (sym h.4) (join_below first.0.uses second.0.uses h.0 h.1 i.1 j.1),
      )
  instantiated_kind outer vars args (rec s) k c h =
      let body = instantiated_kind outer vars args s k c h.0 in
      (body.0, (body.1, session_prekind body.0 k body.2 h.1), body.2)
  instantiated_kind outer vars args (back n) k c h = (k, h, subkind_itself k)
  instantiated_kind outer vars args (var n) k c h =
      let found = put_argument outer vars args n k c h in
      (found.kind, found.well_formed.kinded, found.below)
  instantiated_kind outer vars args (plain b) k c h = (k, h, subkind_itself k)
  instantiated_kind outer vars args (arrow u s r) k c h =
      let first = instantiated_kind outer vars args s h.0.0 c h.0.1 in
      let second = instantiated_kind outer vars args r h.1.0 c h.1.1 in
      (k, ((first.0, first.1), (second.0, second.1), h.2), subkind_itself k)
  instantiated_kind outer vars args (pair s r) k c h =
      let first = instantiated_kind outer vars args s h.0 c h.2 in
      let second = instantiated_kind outer vars args r h.1 c h.3 in
      let u = join first.0.uses second.0.uses in
      let i = (and_parts (prekind_below first.0.prekind h.0.prekind) (use_below first.0.uses h.0.uses) first.2).1 in
      let j = (and_parts (prekind_below second.0.prekind h.1.prekind) (use_below second.0.uses h.1.uses) second.2).1 in (
        top u,
        (first.0, second.0, first.1, second.1, refl),
        subst (λ x. subkind (top u) x ≡ true) (sym h.4) (join_below first.0.uses second.0.uses h.0.uses h.1.uses i j),
      )
  instantiated_kind outer vars args (named n) k c h = (k, h, subkind_itself k)

  instantiated_sessions : (outer vars : List Kind) (args : List Tree) (bs : Branches) → IsInstantiation outer vars args →
      AllSessions vars bs → AllSessions outer (instantiated_all args bs)
  instantiated_sessions outer vars args none c h = tt
  instantiated_sessions outer vars args (branch l s bs) c h =
      let first = instantiated_kind outer vars args s (session h.0.0) c h.0.1 in
      let i = session_within first.0 h.0.0 first.2 in (
        (first.0.uses, subst (λ x. HasKind outer (instantiated args s) x) i.0 first.1),
        instantiated_sessions outer vars args bs c h.1,
      )
