use Rattle.std.proofs.Common.{◌≡◌, ◌-◌, length, map, codes}
use Rattle.fst_terms.specs.ModuleTree.{maker}
use Rattle.fst_reading.specs.Lexeme.{spells}
use Rattle.fst_reading.specs.Reading.{sep_by_within}
use Rattle.fst_reading.proofs.Loops.{with_front}
use Rattle.fst_module_grammar.specs.DeclReading.{maker_at}
use Rattle.fst_module_grammar.proofs.families.makers.Given as goal

abbrev pub invariant-loop : goal.invariant-loop
invariant-loop l =
    let read = sep_by_within (spells (codes "|")) (maker_at l.left) in
    (with_front (map maker l.makers.items) (read (l.end - l.counter) l.rest) ≡ read (length l.tokens) l.tokens) ×
    (l.end ≡ length l.tokens)
