use Rattle.std.proofs.Common.{length, refl, subst, sym, arith}
use Rattle.fst_words.specs.Words.{WordBelow}
use Rattle.fst_basis.specs.declared.proof.Pair.{Pair}
use Rattle.fst_basis.proofs.checking.are_pairs.Goals as goal

pub is_pair-requires-clause-left : goal.is_pair-requires-clause-left
is_pair-requires-clause-left c =
    let R : Pair → Type 0 = λ z. WordBelow (length c.args.g.now.rules.items) z.left in
    subst R (sym c.b-item.is) (c.requires c.loop-b.b-index c.b-item.result (omega arith)).left

pub is_pair-requires-clause-right : goal.is_pair-requires-clause-right
is_pair-requires-clause-right c =
    let R : Pair → Type 0 = λ z. WordBelow (length c.args.g.now.rules.items) z.right in
    subst R (sym c.b-item.is) (c.requires c.loop-b.b-index c.b-item.result (omega arith)).right

pub returns : goal.returns
returns c = ((λ t k d l. c.loop-b.invariant k d (omega arith)), (λ h. refl))
