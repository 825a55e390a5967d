use Rattle.std.proofs.Common.{◌∙◌, ◌++◌, ◌∷◌, [], ap, sym, List, take}
use Rattle.fst_basis.specs.declared.proof.Pair.{Pair}
use Rattle.fst_normed.specs.Walks.{pairs_of}
use Rattle.fst_normed.proofs.ClosingLaws.{pairs_next}
use Rattle.fst_normed.proofs.decision.pairs_of.Goals as goal

pub pair_of-requires-clause-x : goal.pair_of-requires-clause-x
pair_of-requires-clause-x c = (c.requires.candidates.each c.get-x.result (c.loop-at.at, c.get-x.ensures)).first

pub pair_of-requires-clause-y : goal.pair_of-requires-clause-y
pair_of-requires-clause-y c = (c.requires.candidates.each c.get-x.result (c.loop-at.at, c.get-x.ensures)).second

pub loop-at-preserved : goal.loop-at-preserved
loop-at-preserved c =
    let norms = c.args.norms.now in
    let words = c.args.words.now in
    let cs = c.args.needed.now in
    c.in_ok-push.ensures.items ∙ ap (λ (z : List Pair). z ++ c.in_ok-pair_of.field-0 ∷ []) c.loop-at.invariant
    ∙ ap (λ (z : Pair). pairs_of norms words (take c.loop-at.at cs) ++ z ∷ []) c.in_ok-pair_of.ensures
    ∙ sym (pairs_next norms words cs c.loop-at.at c.get-x.result c.get-x.ensures)
