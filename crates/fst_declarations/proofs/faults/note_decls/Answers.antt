use Rattle.std.proofs.Common.{◌∙◌, map, refl, arith}
use Rattle.fst_terms.specs.ModuleTree.{decl_tree}
use Rattle.fst_terms.specs.declared.module.Decl.{Decl}
use Rattle.fst_term_faults.proofs.Laws.{next_noted}
use Rattle.fst_declarations.specs.Declarations.{known_in}
use Rattle.fst_declarations.specs.ModuleFaults.{decl_faults, decls_faults}
use Rattle.fst_declarations.proofs.faults.note_decls.Goals as goal

pub loop-decl-preserved : goal.loop-decl-preserved
loop-decl-preserved c = λ ds are.
    let known = known_in c.args.declarations.now in
    next_noted (λ (d : Decl). decl_faults ds known (decl_tree d)) (λ es. decls_faults ds known (map decl_tree es))
    (λ d es. refl) c.args.decls.now c.loop-decl.decl-index c.decl-item.result c.loop-decl.least c.note_decl.new.least
    (omega arith) c.decl-item.is (c.in_ok-note_decl.ensures ds are) ∙ c.loop-decl.invariant ds are
