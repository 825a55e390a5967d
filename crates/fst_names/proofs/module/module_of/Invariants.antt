use Rattle.fst_names.proofs.module.module_of.Given as goal

abbrev pub ghost-add_globals : goal.ghost-add_globals
ghost-add_globals g a = g.ds
