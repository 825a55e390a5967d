use Rattle.std.proofs.Common.{◌∙◌, ◌∷◌, ◌++◌, [], Some, ap, map}
use Rattle.fst_terms.specs.Naming.{type_of}
use Rattle.fst_term_faults.specs.CodeSurroundings.{surroundings_of}
use Rattle.fst_term_names.specs.CodeMeanings.{scope_in}
use Rattle.fst_term_names.specs.TermTypes.{with_variables}
use Rattle.fst_term_names.proofs.AddedLaws.{are_added, both_ok}
use Rattle.fst_term_names.proofs.MeaningLaws.{scope_is, trees_counted, type_sound}
use Rattle.fst_term_names.proofs.naming.add_open_type.Goals as goal

pub add_type-requires-clause-depth : goal.add_type-requires-clause-depth
unfolding surroundings_of
add_type-requires-clause-depth c = (type_sound c.args.meanings.now c.args.meanings.now.around.now.vars c.args.w.now
    c.requires).depth

pub add_type-requires-clause-trees : goal.add_type-requires-clause-trees
add_type-requires-clause-trees c = trees_counted c.args.meanings.now

pub add_type-requires-clause-known : goal.add_type-requires-clause-known
unfolding surroundings_of
add_type-requires-clause-known c = (type_sound c.args.meanings.now c.args.meanings.now.around.now.vars c.args.w.now
    c.requires).known

pub returns-clause-added : goal.returns-clause-added
unfolding surroundings_of
returns-clause-added c =
    let m = c.args.meanings.now in
    both_ok c.add_type.result c.add_type.ensures.types c.add_type.ensures.places
    (λ types places. are_added (scope_in m) (with_variables c.args.w.now ∷ []) c.args.types.now c.add_type.new.types
    (types ∙ ap (λ s. map Some c.args.types.now.types.items ++ type_of s c.args.w.now ∷ []) (scope_is m m.around.now.vars))
    places)
