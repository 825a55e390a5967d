use Rattle.std.proofs.Common.{◌≡◌, ◌-◌, length}
use Rattle.fst_reading.specs.Reading.{many_within}
use Rattle.fst_type_syntax.specs.TypeReading.{starts_type_atom, atom_with, seq_at, type_at}
use Rattle.fst_reading.proofs.Loops.{with_front}
use Rattle.fst_module_grammar.proofs.families.fields.Given as goal

abbrev pub invariant-loop : goal.invariant-loop
invariant-loop l =
    let atom = atom_with (seq_at l.left) (type_at l.left) in
    (with_front l.fields.items (many_within starts_type_atom atom (l.end - l.counter) l.rest) ≡ many_within starts_type_atom atom
    (length l.tokens) l.tokens) × (l.end ≡ length l.tokens)
