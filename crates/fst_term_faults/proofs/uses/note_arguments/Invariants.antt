use Rattle.std.proofs.Common.{◌≡◌, drop}
use Rattle.fst_scopes.specs.First.{first_from}
use Rattle.fst_term_faults.specs.CodeSurroundings.{surroundings_of}
use Rattle.fst_term_faults.specs.TermFaults.{types_faults}
use Rattle.fst_term_faults.proofs.uses.note_arguments.Given as goal

abbrev pub invariant-loop-w : goal.invariant-loop-w
invariant-loop-w l = first_from l.least (types_faults (surroundings_of l.around).types (drop l.w-index l.types)) ≡ first_from
    l.initial.least (types_faults (surroundings_of l.around).types l.types)
