use Rattle.fst_grammar.proofs.translation.parts_of_both.Goals as goal

pub note_all-requires-clause-kept : goal.note_all-requires-clause-kept
note_all-requires-clause-kept c = c.new-parts.ensures.kept c.args.trees.now
