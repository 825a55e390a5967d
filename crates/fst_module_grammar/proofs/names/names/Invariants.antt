use Rattle.std.proofs.Common.{◌≡◌, ◌-◌, length}
use Rattle.fst_reading.specs.Reading.{one, map_reader, many_within}
use Rattle.fst_reading.specs.Lexeme.{lower_of}
use Rattle.fst_reading.proofs.Loops.{with_front}
use Rattle.fst_module_grammar.specs.Grammar.{bound}
use Rattle.fst_module_grammar.specs.TermReading.{is_lower}
use Rattle.fst_module_grammar.proofs.names.names.Given as goal

abbrev pub invariant-loop : goal.invariant-loop
invariant-loop l =
    let name = map_reader bound (one lower_of) in
    (with_front l.names.items (many_within is_lower name (l.end - l.counter) l.rest) ≡ many_within is_lower name
    (length l.tokens) l.tokens) × (l.end ≡ length l.tokens)
