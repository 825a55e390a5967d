-- The dual of a type is well formed, of the same kind.
use Rattle.std.proofs.Common.{◌≡◌, ◌∙◌, ℕ, suc, ◌&&◌, ◌||◌, not, refl, List}
use Rattle.fst_types.specs.Tree.{Tree, skip, send, receive, close, wait, select, offer, seq, rec, back, var, plain, arrow, pair, named, Branches, none, branch}
use Rattle.fst_types.specs.Order.{AreRising, IsOrdered, AllOrdered}
use Rattle.fst_types.specs.Scoped.{IsScoped, AllScoped}
use Rattle.fst_types.specs.declared.kind.Kind.{Kind}
use Rattle.fst_kinds.specs.Contractive.{guards, reaches, IsContractive, AllContractive}
use Rattle.fst_kinds.specs.Kinds.{HasKind, AllSessions}
use Rattle.fst_kinds.specs.WellFormed.{IsSession, IsWellFormed}
use Rattle.fst_lts.specs.Dual.{dual, dual_all}

dual_guards : (s : Tree) → guards (dual s) ≡ guards s
dual_guards skip = refl
dual_guards (send b) = refl
dual_guards (receive b) = refl
dual_guards close = refl
dual_guards wait = refl
dual_guards (select bs) = refl
dual_guards (offer bs) = refl
dual_guards (seq s r) = λ i. dual_guards s i || dual_guards r i
dual_guards (rec s) = dual_guards s
dual_guards (back n) = refl
dual_guards (var n) = refl
dual_guards (plain b) = refl
dual_guards (arrow u s r) = refl
dual_guards (pair s r) = refl
dual_guards (named n) = refl

dual_reaches : (s : Tree) (k : ℕ) → reaches (dual s) k ≡ reaches s k
dual_reaches skip k = refl
dual_reaches (send b) k = refl
dual_reaches (receive b) k = refl
dual_reaches close k = refl
dual_reaches wait k = refl
dual_reaches (select bs) k = refl
dual_reaches (offer bs) k = refl
dual_reaches (seq s r) k = λ i. dual_reaches s k i || (not (dual_guards s i) && dual_reaches r k i)
dual_reaches (rec s) k = dual_reaches s (suc k)
dual_reaches (back n) k = refl
dual_reaches (var n) k = refl
dual_reaches (plain b) k = refl
dual_reaches (arrow u s r) k = refl
dual_reaches (pair s r) k = refl
dual_reaches (named n) k = refl

mutual
  dual_kind : (vars : List Kind) (s : Tree) (k : Kind) → HasKind vars s k → HasKind vars (dual s) k
  dual_kind vars skip k h = h
  dual_kind vars (send b) k h = h
  dual_kind vars (receive b) k h = h
  dual_kind vars close k h = h
  dual_kind vars wait k h = h
  dual_kind vars (select bs) k h = (dual_kinds vars bs h.0, h.1)
  dual_kind vars (offer bs) k h = (dual_kinds vars bs h.0, h.1)
  dual_kind vars (seq s r) k h = (h.0, h.1, dual_kind vars s _ h.2, dual_kind vars r _ h.3, h.4)
  dual_kind vars (rec s) k h = (dual_kind vars s k h.0, h.1)
  dual_kind vars (back n) k h = h
  dual_kind vars (var n) k h = h
  dual_kind vars (plain b) k h = h
  dual_kind vars (arrow u s r) k h = ((h.0.0, dual_kind vars s _ h.0.1), (h.1.0, dual_kind vars r _ h.1.1), h.2)
  dual_kind vars (pair s r) k h = (h.0, h.1, dual_kind vars s _ h.2, dual_kind vars r _ h.3, h.4)
  dual_kind vars (named n) k h = h

  dual_kinds : (vars : List Kind) (bs : Branches) → AllSessions vars bs → AllSessions vars (dual_all bs)
  dual_kinds vars none h = h
  dual_kinds vars (branch l s bs) h = ((h.0.0, dual_kind vars s _ h.0.1), dual_kinds vars bs h.1)

mutual
  dual_contractive : (s : Tree) → IsContractive s → IsContractive (dual s)
  dual_contractive skip h = h
  dual_contractive (send b) h = h
  dual_contractive (receive b) h = h
  dual_contractive close h = h
  dual_contractive wait h = h
  dual_contractive (select bs) h = dual_all_contractive bs h
  dual_contractive (offer bs) h = dual_all_contractive bs h
  dual_contractive (seq s r) h = (dual_contractive s h.0, dual_contractive r h.1)
  dual_contractive (rec s) h = (dual_contractive s h.0, dual_reaches s 0 ∙ h.1)
  dual_contractive (back n) h = h
  dual_contractive (var n) h = h
  dual_contractive (plain b) h = h
  dual_contractive (arrow u s r) h = (dual_contractive s h.0, dual_contractive r h.1)
  dual_contractive (pair s r) h = (dual_contractive s h.0, dual_contractive r h.1)
  dual_contractive (named n) h = h

  dual_all_contractive : (bs : Branches) → AllContractive bs → AllContractive (dual_all bs)
  dual_all_contractive none h = h
  dual_all_contractive (branch l s bs) h = (dual_contractive s h.0, dual_all_contractive bs h.1)

mutual
  -- no recursion variable is free in the dual either
  pub dual_scoped : (n : ℕ) (s : Tree) → IsScoped n s → IsScoped n (dual s)
  dual_scoped n skip h = h
  dual_scoped n (send b) h = h
  dual_scoped n (receive b) h = h
  dual_scoped n close h = h
  dual_scoped n wait h = h
  dual_scoped n (select bs) h = dual_all_scoped n bs h
  dual_scoped n (offer bs) h = dual_all_scoped n bs h
  dual_scoped n (seq s r) h = (dual_scoped n s h.0, dual_scoped n r h.1)
  dual_scoped n (rec s) h = dual_scoped (suc n) s h
  dual_scoped n (back k) h = h
  dual_scoped n (var k) h = h
  dual_scoped n (plain b) h = h
  dual_scoped n (arrow u s r) h = (dual_scoped n s h.0, dual_scoped n r h.1)
  dual_scoped n (pair s r) h = (dual_scoped n s h.0, dual_scoped n r h.1)
  dual_scoped n (named k) h = h

  dual_all_scoped : (n : ℕ) (bs : Branches) → AllScoped n bs → AllScoped n (dual_all bs)
  dual_all_scoped n none h = h
  dual_all_scoped n (branch l s bs) h = (dual_scoped n s h.0, dual_all_scoped n bs h.1)

dual_rising : (bs : Branches) → AreRising bs → AreRising (dual_all bs)
dual_rising none h = h
dual_rising (branch l s none) h = h
dual_rising (branch l s (branch m r bs)) h = (h.0, dual_rising (branch m r bs) h.1)

mutual
  dual_ordered : (s : Tree) → IsOrdered s → IsOrdered (dual s)
  dual_ordered skip h = h
  dual_ordered (send b) h = h
  dual_ordered (receive b) h = h
  dual_ordered close h = h
  dual_ordered wait h = h
  dual_ordered (select bs) h = (dual_rising bs h.0, dual_all_ordered bs h.1)
  dual_ordered (offer bs) h = (dual_rising bs h.0, dual_all_ordered bs h.1)
  dual_ordered (seq s r) h = (dual_ordered s h.0, dual_ordered r h.1)
  dual_ordered (rec s) h = dual_ordered s h
  dual_ordered (back n) h = h
  dual_ordered (var n) h = h
  dual_ordered (plain b) h = h
  dual_ordered (arrow u s r) h = (dual_ordered s h.0, dual_ordered r h.1)
  dual_ordered (pair s r) h = (dual_ordered s h.0, dual_ordered r h.1)
  dual_ordered (named n) h = h

  dual_all_ordered : (bs : Branches) → AllOrdered bs → AllOrdered (dual_all bs)
  dual_all_ordered none h = h
  dual_all_ordered (branch l s bs) h = (dual_ordered s h.0, dual_all_ordered bs h.1)

-- the dual of a well-formed type is well formed, of the same kind
pub dual_formed : (vars : List Kind) (s : Tree) (k : Kind) → IsWellFormed vars s k → IsWellFormed vars (dual s) k
dual_formed vars s k w = record {
  kinded = dual_kind vars s k w.kinded;
  contractive = dual_contractive s w.contractive;
  scoped = dual_scoped 0 s w.scoped;
  ordered = dual_ordered s w.ordered;
}

-- the dual of a session type is a session type
pub dual_session : (vars : List Kind) (s : Tree) → IsSession vars s → IsSession vars (dual s)
dual_session vars s h = (h.0, dual_formed vars s _ h.1)
