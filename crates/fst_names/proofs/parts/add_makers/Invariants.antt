use Rattle.fst_declarations.specs.Declarations.{known_in}
use Rattle.fst_names.proofs.PartLaws.{AreMade}
use Rattle.fst_names.proofs.parts.add_makers.Given as goal

abbrev pub invariant-loop-maker : goal.invariant-loop-maker
invariant-loop-maker g l = AreMade g.ds (known_in l.declarations) l.makers l.maker-index l.initial.list l.kept.items l.list

abbrev pub ghost-add_fields : goal.ghost-add_fields
ghost-add_fields g a = g.ds
