use Rattle.std.proofs.Common.{◌∙◌, [], refl, arith}
use Rattle.fst_scopes.specs.Faults.{type_faults}
use Rattle.fst_term_faults.specs.TermFaults.{types_faults}
use Rattle.fst_term_faults.proofs.Laws.{next_noted}
use Rattle.fst_declarations.specs.Declarations.{known_in}
use Rattle.fst_declarations.specs.ModuleFaults.{module_scope}
use Rattle.fst_declarations.proofs.faults.note_fields.Goals as goal

pub loop-w-preserved : goal.loop-w-preserved
loop-w-preserved c = λ ds are.
    let s = module_scope ds (known_in c.args.declarations.now) [] in
    next_noted (type_faults s) (types_faults s) (λ w ws. refl) c.args.fields.now c.loop-w.w-index c.w-item.result c.loop-w.least
    c.note_closed.new.least
    (omega arith) c.w-item.is (c.in_ok-note_closed.ensures ds are) ∙ c.loop-w.invariant ds are
