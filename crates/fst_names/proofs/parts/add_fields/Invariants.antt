use Rattle.fst_declarations.specs.Declarations.{known_in}
use Rattle.fst_names.proofs.PartLaws.{AreNumbered}
use Rattle.fst_names.proofs.parts.add_fields.Given as goal

abbrev pub invariant-loop-w : goal.invariant-loop-w
invariant-loop-w g l = AreNumbered g.ds (known_in l.declarations) l.fields l.w-index l.initial.list l.numbers.items l.list

abbrev pub ghost-add_type : goal.ghost-add_type
ghost-add_type g a = g.ds
