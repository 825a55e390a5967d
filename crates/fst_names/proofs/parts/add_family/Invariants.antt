use Rattle.fst_names.proofs.parts.add_family.Given as goal

abbrev pub ghost-add_makers : goal.ghost-add_makers
ghost-add_makers g a = g.ds
