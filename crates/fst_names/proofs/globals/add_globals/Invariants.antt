use Rattle.std.proofs.Common.{length, take}
use Rattle.fst_declarations.specs.Declarations.{known_in}
use Rattle.fst_names.specs.Modules.{equations_from}
use Rattle.fst_names.proofs.GlobalLaws.{AreAdded}
use Rattle.fst_names.proofs.globals.add_globals.Given as goal

abbrev pub ghost-add_global : goal.ghost-add_global
ghost-add_global g a = g.ds

abbrev pub invariant-loop-part : goal.invariant-loop-part
invariant-loop-part g l = AreAdded g.ds (known_in l.declarations)
    (take (length l.yielded) (equations_from 0 g.ds)) l.initial.list l.globals.items l.list
