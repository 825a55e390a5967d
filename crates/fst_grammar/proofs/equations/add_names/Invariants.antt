use Rattle.std.proofs.Common.{◌≡◌, ◌++◌, drop, map}
use Rattle.fst_grammar.specs.Rules.{name_rules}
use Rattle.fst_grammar.specs.Equations.{own}
use Rattle.fst_grammar.specs.Views.{equation_of, numbers_in}
use Rattle.fst_grammar.proofs.equations.add_names.Given as goal

abbrev pub invariant-loop-name : goal.invariant-loop-name
invariant-loop-name l =
    map equation_of l.equations.items ++ map (λ a. own (name_rules (numbers_in l.table) l.table.letters.items a))
    (drop l.name-index l.table.names.items) ≡ map equation_of l.initial.equations.items ++ map
    (λ a. own (name_rules (numbers_in l.table) l.table.letters.items a)) l.table.names.items
