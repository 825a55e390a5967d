use Rattle.std.proofs.Common.{◌≡◌, ◌-◌, length, codes}
use Rattle.fst_reading.specs.Lexeme.{spells}
use Rattle.fst_reading.specs.Reading.{sep_by_within}
use Rattle.fst_type_syntax.specs.TypeReading.{binder_at}
use Rattle.fst_reading.proofs.Loops.{with_front}
use Rattle.fst_type_syntax.proofs.questions.binders.Given as goal

abbrev pub invariant-loop : goal.invariant-loop
invariant-loop l =
    let comma = spells (codes ",") in
    (with_front l.binders.items (sep_by_within comma binder_at (l.end - l.counter) l.rest) ≡ sep_by_within comma binder_at
    (length l.tokens) l.tokens) × (l.end ≡ length l.tokens)
