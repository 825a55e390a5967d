use Rattle.std.proofs.Common.{length, subst, sym, arith}
use Rattle.fst_words.specs.Words.{WordBelow}
use Rattle.fst_basis.specs.declared.proof.Pair.{Pair}
use Rattle.fst_basis.proofs.checking.are_joined.Goals as goal

pub first_row-rules-requires : goal.first_row-rules-requires
first_row-rules-requires c =
    let R : Pair → Type 0 = λ z. WordBelow (length c.args.g.now.rules.items) z.left in
    rw c.as_slice-left.ensures (subst R (sym c.b-item.is) (c.requires c.loop-b.b-index c.b-item.result (omega arith)).left)

pub are_joined_by_rules-requires : goal.are_joined_by_rules-requires
are_joined_by_rules-requires c =
    let R : Pair → Type 0 = λ z. WordBelow (length c.args.g.now.rules.items) z.right in
    rw c.as_slice.ensures (subst R (sym c.b-item.is) (c.requires c.loop-b.b-index c.b-item.result (omega arith)).right)
