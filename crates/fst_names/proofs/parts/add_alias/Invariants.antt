use Rattle.fst_names.proofs.parts.add_alias.Given as goal

abbrev pub ghost-add_type : goal.ghost-add_type
ghost-add_type g a = g.ds
