use Rattle.std.proofs.Common.{◌∙◌, ap, map, take, [], ◌∷◌, ◌++◌}
use Rattle.std.proofs.lemmas.List.{append-nil}
use Rattle.fst_terms.specs.ModuleTree.{decl_tree}
use Rattle.fst_declarations.proofs.DeclaredTables.{all_decls, global_names, globals_named, globals_push, more_decls}
use Rattle.fst_declarations.proofs.FirstTables.{more_names, same_names}
use Rattle.fst_declarations.proofs.tables.globals_of.Goals.{in-Family, in-Alias, in-Signature+in_ok-add-in-Signature, in-Equation+in_ok-add-in-Equation}
use Rattle.fst_declarations.proofs.tables.globals_of.Goals as goal

pub loop-decl-preserved : goal.loop-decl-preserved
loop-decl-preserved c =
    let d = c.decl-item.result in
    let ds = map decl_tree (take c.loop-decl.decl-index c.args.decls.now) in
    let more = ap global_names (more_decls c.args.decls.now c.loop-decl.decl-index d c.loop-decl-test.true c.decl-item.is)
    ∙ globals_push ds (decl_tree d) in
    elim c.match-decl.branch [
      | in-Family w ↦
          same_names (global_names ds) _ c.loop-decl.names _ c.loop-decl.invariant
          (more ∙ ap (λ z. global_names ds ++ global_names (decl_tree z ∷ [])) w.in-Family.is ∙ append-nil (global_names ds))
          w.names-is
      | in-Alias w ↦
          same_names (global_names ds) _ c.loop-decl.names _ c.loop-decl.invariant
          (more ∙ ap (λ z. global_names ds ++ global_names (decl_tree z ∷ [])) w.in-Alias.is ∙ append-nil (global_names ds))
          w.names-is
      | in-Signature+in_ok-add-in-Signature w ↦
          more_names (global_names ds) _ w.in-Signature.binder c.loop-decl.names _ c.loop-decl.invariant
          (more ∙ ap (λ z. global_names ds ++ global_names (decl_tree z ∷ [])) w.in-Signature.is)
          (w.names-is ∙ w.in_ok-add-in-Signature.ensures.names)
      | in-Equation+in_ok-add-in-Equation w ↦
          more_names (global_names ds) _ w.in-Equation.binder c.loop-decl.names _ c.loop-decl.invariant
          (more ∙ ap (λ z. global_names ds ++ global_names (decl_tree z ∷ [])) w.in-Equation.is)
          (w.names-is ∙ w.in_ok-add-in-Equation.ensures.names)
    ]

pub returns : goal.returns
returns c = λ x.
    let all = all_decls c.args.decls.now c.loop-decl.decl-index c.loop-decl-test.false in
    let are = rw all at c.loop-decl.invariant in
    are.among x ∙ globals_named (map decl_tree c.args.decls.now) x
