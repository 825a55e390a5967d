use Rattle.std.proofs.Common.{◌≡◌, List, drop, map, []}
use Rattle.fst_terms.specs.ModuleTree.{Declared, maker}
use Rattle.fst_scopes.specs.First.{first_from}
use Rattle.fst_declarations.specs.Declarations.{AreDeclarations, known_in}
use Rattle.fst_declarations.specs.ModuleFaults.{fields_faults, module_scope}
use Rattle.fst_declarations.proofs.faults.note_makers.Given as goal

abbrev pub invariant-loop-maker : goal.invariant-loop-maker
invariant-loop-maker l = (ds : List Declared) → AreDeclarations ds l.declarations →
    first_from l.least (fields_faults (module_scope ds (known_in l.declarations) []) (map maker (drop l.maker-index l.makers))) ≡
    first_from l.initial.least (fields_faults (module_scope ds (known_in l.declarations) []) (map maker l.makers))
