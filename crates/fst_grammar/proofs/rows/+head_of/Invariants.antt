use Rattle.fst_grammar.proofs.rows.+head_of.Given as goal

abbrev pub decreases-head_of : goal.decreases-head_of
decreases-head_of l = l.left
