use Rattle.std.proofs.Common.{◌≡◌, ◌∷◌, ◌-◌, length, codes}
use Rattle.fst_reading.specs.Lexeme.{spells}
use Rattle.fst_reading.specs.Reading.{andthen, word, many_within}
use Rattle.fst_reading.proofs.Loops.{with_front}
use Rattle.fst_module_grammar.specs.TermReading.{inside, expr_at, type_atom_with}
use Rattle.fst_module_grammar.proofs.applied.applied.Given as goal

abbrev pub invariant-loop : goal.invariant-loop
invariant-loop l =
    let sign = spells (codes "@") in
    let argument = andthen (word (codes "@")) (λ k. type_atom_with (expr_at l.left ∷ inside l.left)) in
    (with_front l.arguments.items (many_within sign argument (l.end - l.counter) l.rest) ≡ many_within sign argument
    (length l.tokens) l.tokens) × (l.end ≡ length l.tokens)
