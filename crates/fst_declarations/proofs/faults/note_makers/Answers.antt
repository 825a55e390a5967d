use Rattle.std.proofs.Common.{◌∙◌, [], map, refl, arith}
use Rattle.fst_terms.specs.ModuleTree.{maker}
use Rattle.fst_terms.specs.declared.module.SourceMaker.{SourceMaker}
use Rattle.fst_term_faults.specs.TermFaults.{types_faults}
use Rattle.fst_term_faults.proofs.Laws.{next_noted}
use Rattle.fst_declarations.specs.Declarations.{known_in}
use Rattle.fst_declarations.specs.ModuleFaults.{fields_faults, module_scope}
use Rattle.fst_declarations.proofs.faults.note_makers.Goals as goal

pub loop-maker-preserved : goal.loop-maker-preserved
loop-maker-preserved c = λ ds are.
    let s = module_scope ds (known_in c.args.declarations.now) [] in
    next_noted (λ (m : SourceMaker). types_faults s m.fields.items) (λ ms. fields_faults s (map maker ms))
    (λ m ms. refl) c.args.makers.now c.loop-maker.maker-index c.maker-item.result c.loop-maker.least c.note_fields.new.least
    (omega arith) c.maker-item.is (rw c.deref.ensures.value at c.in_ok-note_fields.ensures ds are) ∙ c.loop-maker.invariant ds are
