use Rattle.std.proofs.Common.{◌≡◌, List, drop, []}
use Rattle.fst_terms.specs.ModuleTree.{Declared}
use Rattle.fst_scopes.specs.First.{first_from}
use Rattle.fst_term_faults.specs.TermFaults.{types_faults}
use Rattle.fst_declarations.specs.Declarations.{AreDeclarations, known_in}
use Rattle.fst_declarations.specs.ModuleFaults.{module_scope}
use Rattle.fst_declarations.proofs.faults.note_fields.Given as goal

abbrev pub invariant-loop-w : goal.invariant-loop-w
invariant-loop-w l = (ds : List Declared) → AreDeclarations ds l.declarations →
    first_from l.least (types_faults (module_scope ds (known_in l.declarations) []) (drop l.w-index l.fields)) ≡
    first_from l.initial.least (types_faults (module_scope ds (known_in l.declarations) []) l.fields)
