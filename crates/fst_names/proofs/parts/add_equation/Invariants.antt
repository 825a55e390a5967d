use Rattle.fst_names.proofs.parts.add_equation.Given as goal

abbrev pub ghost-variables_for : goal.ghost-variables_for
ghost-variables_for g a = g.ds
