use Rattle.std.proofs.Common.{◌≡◌, ◌++◌, drop, map}
use Rattle.fst_grammar.specs.Equations.{part_equation}
use Rattle.fst_parts.specs.Views.{part_of}
use Rattle.fst_grammar.specs.Views.{equation_of, numbers_in}
use Rattle.fst_grammar.proofs.equations.add_parts.Given as goal

abbrev pub invariant-loop-part : goal.invariant-loop-part
invariant-loop-part l =
    map equation_of l.equations.items ++ map (part_equation (numbers_in l.table) l.table.letters.items)
    (map part_of (drop l.part-index l.table.parts.found.items)) ≡ map equation_of l.initial.equations.items ++ map
    (part_equation (numbers_in l.table) l.table.letters.items) (map part_of l.table.parts.found.items)
