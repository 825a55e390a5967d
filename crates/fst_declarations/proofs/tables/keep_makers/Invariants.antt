use Rattle.std.proofs.Common.{List, ◌++◌, map, take, Option}
use Rattle.fst_terms.specs.declared.binder.Binder.{Binder}
use Rattle.fst_terms.specs.ModuleTree.{maker}
use Rattle.fst_scopes.specs.declared.fault.NameFault.{NameFault}
use Rattle.fst_term_faults.specs.declared.surroundings.MakerEntry.{MakerEntry}
use Rattle.fst_declarations.specs.Tables.{IsKept, entries_from, itself}
use Rattle.fst_declarations.proofs.tables.keep_makers.Given as goal

abbrev pub invariant-loop-n : goal.invariant-loop-n
invariant-loop-n l =
    (old : Option NameFault) (before : List (Binder × MakerEntry)) →
    IsKept itself old before l.initial.names l.initial.entries.items l.initial.least →
    IsKept itself old (before ++ entries_from l.family 0 (map maker (take l.n l.makers))) l.names l.entries.items l.least
