use Rattle.std.proofs.Common.{◌∙◌, refl, arith}
use Rattle.fst_scopes.specs.Faults.{type_faults}
use Rattle.fst_term_faults.specs.CodeSurroundings.{surroundings_of}
use Rattle.fst_term_faults.specs.TermFaults.{types_faults}
use Rattle.fst_term_faults.proofs.NotedLaws.{next_noted}
use Rattle.fst_term_faults.proofs.uses.note_arguments.Goals as goal

pub loop-w-preserved : goal.loop-w-preserved
loop-w-preserved c =
    let s = (surroundings_of c.args.around.now).types in
    next_noted (type_faults s) (types_faults s) (λ w ws. refl) c.args.types.now c.loop-w.w-index c.w-item.result c.loop-w.least
    c.note_open_type.new.least
    (omega arith) c.w-item.is c.in_ok-note_open_type.ensures ∙ c.loop-w.invariant
