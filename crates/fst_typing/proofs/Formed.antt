-- Parts of well-formed types, what is made of well-formed types, and what they move to.
use Rattle.std.proofs.Common.{◌≡◌, ℕ, Bool, true, false, Some, None, List, refl, subst, arith}
use Rattle.std.specs.Prelude.{IfSome, if◌then◌else◌}
use Rattle.fst_types.specs.Tree.{Tree, skip, send, receive, close, wait, select, offer, seq, rec, back, var, plain, arrow, pair, named}
use Rattle.fst_types.specs.Order.{same_label}
use Rattle.fst_types.specs.declared.base.Base.{Base}
use Rattle.fst_types.specs.declared.kind.Kind.{Kind}
use Rattle.fst_types.specs.declared.kind.Use.{Use}
use Rattle.fst_types.specs.declared.kind.Use.TheVariants.{Many, Once}
use Rattle.fst_types.specs.declared.label.Label.{Label}
use Rattle.fst_types.specs.declared.label.Label.TheVariants as label
use Rattle.fst_types.proofs.Laws.{same_label-same}
use Rattle.fst_kinds.specs.Kinds.{session}
use Rattle.fst_kinds.specs.WellFormed.{IsWellFormed, IsSession}
use Rattle.fst_kinds.proofs.Laws.{session_of}
use Rattle.fst_lts.specs.Step.{step}
use Rattle.fst_lts.proofs.Laws.{step_session}
use Rattle.fst_derivations.specs.Parts.{IsFormed}
use Rattle.fst_premises.specs.Checks.{IsInSize}

-- ---- parts of well-formed types are well formed

pub arrow_formed : (vars : List Kind) (n : Use) (s r : Tree) → IsFormed vars (arrow n s r) → IsFormed vars s × IsFormed vars r
arrow_formed vars n s r (k, w) =
    let h = w.kinded in (
      (h.0.0, record { kinded = h.0.1; contractive = w.contractive.0; scoped = w.scoped.0; ordered = w.ordered.0 }),
      (h.1.0, record { kinded = h.1.1; contractive = w.contractive.1; scoped = w.scoped.1; ordered = w.ordered.1 }),
    )

pub pair_formed : (vars : List Kind) (s r : Tree) → IsFormed vars (pair s r) → IsFormed vars s × IsFormed vars r
pair_formed vars s r (k, w) =
    let h = w.kinded in (
      (h.0, record { kinded = h.2; contractive = w.contractive.0; scoped = w.scoped.0; ordered = w.ordered.0 }),
      (h.1, record { kinded = h.3; contractive = w.contractive.1; scoped = w.scoped.1; ordered = w.ordered.1 }),
    )

pub arrow_of_formed : (vars : List Kind) (n : Use) (s r : Tree) → IsFormed vars s → IsFormed vars r → IsFormed vars (arrow n s r)
arrow_of_formed vars n s r (i, v) (j, w) = (
  _,
  record {
    kinded = ((i, v.kinded), (j, w.kinded), refl);
    contractive = (v.contractive, w.contractive);
    scoped =
        (v.scoped, w.scoped);
    ordered = (v.ordered, w.ordered);
  },
)

-- ---- so it is with types within their size

pub arrow_small : (n : Use) (s r : Tree) → IsInSize (arrow n s r) → IsInSize s × IsInSize r
arrow_small n s r h = (omega (arith, h), omega (arith, h))

pub pair_small : (s r : Tree) → IsInSize (pair s r) → IsInSize s × IsInSize r
pair_small s r h = (omega (arith, h), omega (arith, h))

pub base_small : (b : Base) → IsInSize (plain b)
base_small b = omega arith

pub named_small : (n : ℕ) → IsInSize (named n)
named_small n = omega arith

-- ---- a well-formed type that moves by no variable is a session type

as_session : (vars : List Kind) (t : Tree) (k : Kind) (u : Use) → k ≡ session u → IsWellFormed vars t k → IsSession vars t
as_session vars t k u e w = (u, subst (IsWellFormed vars t) e w)

pub moving_session : (vars : List Kind) (t : Tree) (k : Kind) (a : Label) (r : Tree) → IsWellFormed vars t k →
    ((j : ℕ) → a ≡ label.Var j → ⊥) → step t a ≡ Some r → IsSession vars t
moving_session vars skip k a r w n e = as_session vars skip k Many w.kinded w
moving_session vars (send b) k a r w n e = as_session vars (send b) k Once w.kinded w
moving_session vars (receive b) k a r w n e = as_session vars (receive b) k Once w.kinded w
moving_session vars close k a r w n e = as_session vars close k Once w.kinded w
moving_session vars wait k a r w n e = as_session vars wait k Once w.kinded w
moving_session vars (select bs) k a r w n e = as_session vars (select bs) k Once w.kinded.1 w
moving_session vars (offer bs) k a r w n e = as_session vars (offer bs) k Once w.kinded.1 w
moving_session vars (seq s t) k a r w n e = as_session vars (seq s t) k _ w.kinded.4 w
moving_session vars (rec s) k a r w n e = as_session vars (rec s) k k.uses (session_of k w.kinded.1) w
moving_session vars (back j) k a r w n e = as_session vars (back j) k Many w.kinded w
moving_session vars (var j) k a r w n e = absurd (pick (same_label a (label.Var j)) refl e)
  where
    pick : (c : Bool) → same_label a (label.Var j) ≡ c → (if c then Some skip else None) ≡ Some r → ⊥
    pick true s h = n j (same_label-same a (label.Var j) s)
    pick false s h = cc h
moving_session vars (plain b) k a r w n e = absurd (cc e)
moving_session vars (arrow u s t) k a r w n e = absurd (cc e)
moving_session vars (pair s t) k a r w n e = absurd (cc e)
moving_session vars (named j) k a r w n e = absurd (cc e)

-- what a well-formed type moves to is well formed
pub moved_formed : (vars : List Kind) (t r : Tree) (a : Label) → IsSession vars t → step t a ≡ Some r → IsFormed vars r
moved_formed vars t r a s e = let x = subst (λ o. IfSome o (IsSession vars)) e (step_session vars t a s) in (session x.0, x.1)
