-- Well-formed types: what a pair of them is, their labels, and that a closed one is well formed over any variables.
use Rattle.std.proofs.Common.{◌∙◌, zero, suc, List, [], refl, sym}
use Rattle.fst_types.specs.Tree.{Tree, skip, send, receive, close, wait, select, offer, seq, rec, back, var, plain, arrow, pair, named, Branches, none, branch}
use Rattle.fst_types.specs.Order.{AreRising, AreSorted, EachChoiceBelow, IsOrdered, IsSorted}
use Rattle.fst_types.specs.declared.kind.Kind.{Kind}
use Rattle.fst_kinds.specs.Kinds.{HasKind, AllSessions}
use Rattle.fst_derivations.specs.Parts.{IsFormed}

-- a pair of well-formed types is one
pub pair_of_formed : (vars : List Kind) (s r : Tree) → IsFormed vars s → IsFormed vars r → IsFormed vars (pair s r)
pair_of_formed vars s r (i, v) (j, w) = (
  _,
  record {
    kinded = (i, j, v.kinded, w.kinded, refl);
    contractive = (v.contractive, w.contractive);
    scoped =
        (v.scoped, w.scoped);
    ordered = (v.ordered, w.ordered);
  },
)

-- labels that rise are sorted
rising_sorted : (bs : Branches) → AreRising bs → AreSorted bs
rising_sorted none h = h
rising_sorted (branch l s none) h = h
rising_sorted (branch l s (branch m r bs)) h = (λ e. absurd (cc (sym h.0 ∙ e)), rising_sorted (branch m r bs) h.1)

mutual
  -- where the labels of each choice rise, they are sorted
  pub ordered_sorted : (s : Tree) → IsOrdered s → IsSorted s
  ordered_sorted skip h = h
  ordered_sorted (send b) h = h
  ordered_sorted (receive b) h = h
  ordered_sorted close h = h
  ordered_sorted wait h = h
  ordered_sorted (select bs) h = (rising_sorted bs h.0, all_sorted bs h.1)
  ordered_sorted (offer bs) h = (rising_sorted bs h.0, all_sorted bs h.1)
  ordered_sorted (seq s r) h = (ordered_sorted s h.0, ordered_sorted r h.1)
  ordered_sorted (rec s) h = ordered_sorted s h
  ordered_sorted (back n) h = h
  ordered_sorted (var n) h = h
  ordered_sorted (plain b) h = h
  ordered_sorted (arrow u s r) h = (ordered_sorted s h.0, ordered_sorted r h.1)
  ordered_sorted (pair s r) h = (ordered_sorted s h.0, ordered_sorted r h.1)
  ordered_sorted (named n) h = h

  all_sorted : (bs : Branches) → EachChoiceBelow AreRising bs → EachChoiceBelow AreSorted bs
  all_sorted none h = h
  all_sorted (branch l s bs) h = (ordered_sorted s h.0, all_sorted bs h.1)

-- what `kind_of` asks of a type
pub formed_sorted : (vars : List Kind) (t : Tree) → IsFormed vars t → IsSorted t
formed_sorted vars t f = ordered_sorted t f.1.ordered

mutual
  -- a closed type has its kind over any variables
  closed_kind : (vars : List Kind) (s : Tree) (k : Kind) → HasKind [] s k → HasKind vars s k
  closed_kind vars skip k h = h
  closed_kind vars (send b) k h = h
  closed_kind vars (receive b) k h = h
  closed_kind vars close k h = h
  closed_kind vars wait k h = h
  closed_kind vars (select bs) k h = (closed_kinds vars bs h.0, h.1)
  closed_kind vars (offer bs) k h = (closed_kinds vars bs h.0, h.1)
  closed_kind vars (seq s r) k h = (h.0, h.1, closed_kind vars s _ h.2, closed_kind vars r _ h.3, h.4)
  closed_kind vars (rec s) k h = (closed_kind vars s k h.0, h.1)
  closed_kind vars (back n) k h = h
  closed_kind vars (var zero) k h = absurd (cc h)
  closed_kind vars (var (suc n)) k h = absurd (cc h)
  closed_kind vars (plain b) k h = h
  closed_kind vars (arrow u s r) k h = ((h.0.0, closed_kind vars s _ h.0.1), (h.1.0, closed_kind vars r _ h.1.1), h.2)
  closed_kind vars (pair s r) k h = (h.0, h.1, closed_kind vars s _ h.2, closed_kind vars r _ h.3, h.4)
  closed_kind vars (named n) k h = h

  closed_kinds : (vars : List Kind) (bs : Branches) → AllSessions [] bs → AllSessions vars bs
  closed_kinds vars none h = h
  closed_kinds vars (branch l s bs) h = ((h.0.0, closed_kind vars s _ h.0.1), closed_kinds vars bs h.1)

-- a closed well-formed type is well formed over any variables
pub closed_formed : (vars : List Kind) (t : Tree) → IsFormed [] t → IsFormed vars t
closed_formed vars t (k, w) = (
  k,
  record {
    kinded = closed_kind vars t k w.kinded;
    contractive = w.contractive;
    scoped = w.scoped;
    ordered = w.ordered;
  },
)
