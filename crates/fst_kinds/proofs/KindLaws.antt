-- Kinds below 1S, and that a type has one kind.
use Rattle.std.proofs.Common.{◌≡◌, ◌∙◌, refl, sym, List, true}
use Rattle.fst_types.specs.Tree.{Tree, skip, send, receive, close, wait, select, offer, seq, rec, back, var, plain, arrow, pair, named}
use Rattle.fst_types.specs.declared.kind.Kind.{Kind}
use Rattle.fst_types.specs.declared.kind.Prekind.{Prekind}
use Rattle.fst_types.specs.declared.kind.Prekind.TheVariants.{Session, Top}
use Rattle.fst_types.specs.declared.kind.Use.{Use}
use Rattle.fst_types.specs.declared.kind.Use.TheVariants.{Many, Once}
use Rattle.fst_kinds.specs.Kinds.{session, top, subkind, join, HasKind}

-- the prekind of a kind below 1S is that of sessions
below_session-prekind : (p : Prekind) (u : Use) → subkind (record { prekind = p; uses = u }) (session Once) ≡ true → p ≡ Session
below_session-prekind Session u e = refl
below_session-prekind Top u e = absurd (cc e)

-- a kind below 1S is *S or 1S
pub below_session : (k : Kind) → subkind k (session Once) ≡ true → k ≡ session k.uses
below_session k e =
    let p = below_session-prekind k.prekind k.uses e in
    λ i. record { prekind = p i; uses = k.uses }

-- *S and 1S are below 1S
pub session_below : (u : Use) → subkind (session u) (session Once) ≡ true
session_below Many = refl
session_below Once = refl

-- a type has one kind
pub one_kind : (vars : List Kind) (t : Tree) (j k : Kind) → HasKind vars t j → HasKind vars t k → j ≡ k
one_kind vars skip j k h g = cc
one_kind vars (send b) j k h g = cc
one_kind vars (receive b) j k h g = cc
one_kind vars close j k h g = cc
one_kind vars wait j k h g = cc
one_kind vars (select bs) j k h g = cc
one_kind vars (offer bs) j k h g = cc
one_kind vars (seq s r) j k h g =
    let first : session h.0 ≡ session g.0 = one_kind vars s (session h.0) (session g.0) h.2 g.2 in
    let second : session h.1 ≡ session g.1 = one_kind vars r (session h.1) (session g.1) h.3 g.3 in
    h.4 ∙ (λ i. session (join ((first i).uses) ((second i).uses))) ∙ sym g.4
one_kind vars (rec s) j k h g = one_kind vars s j k h.0 g.0
one_kind vars (back n) j k h g = cc
one_kind vars (var n) j k h g = cc
one_kind vars (plain b) j k h g = cc
one_kind vars (arrow u s r) j k h g = cc
one_kind vars (pair s r) j k h g =
    let first = one_kind vars s h.0 g.0 h.2 g.2 in
    let second = one_kind vars r h.1 g.1 h.3 g.3 in
    h.4 ∙ (λ i. top (join ((first i).uses) ((second i).uses))) ∙ sym g.4
one_kind vars (named n) j k h g = cc
