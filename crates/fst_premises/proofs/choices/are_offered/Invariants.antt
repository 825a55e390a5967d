use Rattle.fst_premises.proofs.OfferLaws.{AreOfferedTo}
use Rattle.fst_premises.proofs.choices.are_offered.Given as goal

abbrev pub invariant-loop-label : goal.invariant-loop-label
invariant-loop-label l = AreOfferedTo l.label-index l.labels
