use Rattle.std.proofs.Common.{◌∙◌, ap, sym, subst, map, take, [], ◌∷◌, ◌++◌}
use Rattle.std.proofs.lemmas.List.{append-nil}
use Rattle.fst_terms.specs.ModuleTree.{decl_tree}
use Rattle.fst_scopes.proofs.Laws.{IsNoted, one_noted}
use Rattle.fst_declarations.specs.ModuleNames.{equation_names}
use Rattle.fst_declarations.proofs.DeclaredTables.{equations_push, more_decls, no_equation}
use Rattle.fst_declarations.proofs.tables.equations_of.Goals.{in-Equation+in_ok-note_name, in_default}
use Rattle.fst_declarations.proofs.tables.equations_of.Goals as goal

pub loop-decl-preserved : goal.loop-decl-preserved
loop-decl-preserved c =
    let d = c.decl-item.result in
    let ds = map decl_tree (take c.loop-decl.decl-index c.args.decls.now) in
    let more = ap equation_names (more_decls c.args.decls.now c.loop-decl.decl-index d c.loop-decl-test.true c.decl-item.is)
    ∙ equations_push ds (decl_tree d) in
    elim c.match-decl.branch [
      | in-Equation+in_ok-note_name w ↦
          one_noted c.args.least.now c.loop-decl.least _
          (equation_names ds) _ w.in-Equation.binder c.loop-decl.names _ c.loop-decl.invariant
          (more ∙ ap (λ z. equation_names ds ++ equation_names (decl_tree z ∷ [])) w.in-Equation.is)
          (w.names-is ∙ w.in_ok-note_name.ensures.names) (w.least-is ∙ w.in_ok-note_name.ensures.twice)
      | in_default w ↦
          let same = more ∙ ap (λ z. equation_names ds ++ z) (no_equation d w.in_default.not-Equation)
          ∙ append-nil (equation_names ds) in
          subst (λ z. IsNoted c.args.least.now z c.match-decl.names c.match-decl.least) (sym same)
          (subst (λ z. IsNoted c.args.least.now (equation_names ds) z c.match-decl.least) (sym w.names-is)
          (subst (IsNoted c.args.least.now (equation_names ds) c.loop-decl.names) (sym w.least-is) c.loop-decl.invariant))
    ]
