use Rattle.fst_names.proofs.parts.add_decl.Given as goal

abbrev pub ghost-add_family : goal.ghost-add_family
ghost-add_family g a = g.ds

abbrev pub ghost-add_alias : goal.ghost-add_alias
ghost-add_alias g a = g.ds

abbrev pub ghost-add_signature : goal.ghost-add_signature
ghost-add_signature g a = g.ds

abbrev pub ghost-add_equation : goal.ghost-add_equation
ghost-add_equation g a = g.ds
