use Rattle.std.proofs.Common.{◌≡◌, ◌+◌, ◌-◌, ◌*◌, length, map, codes}
use Rattle.fst_reading.specs.Lexeme.{spells}
use Rattle.fst_reading.specs.Reading.{sep_by_within}
use Rattle.fst_type_syntax.specs.TypeReading.{alt_with, seq_at, type_at}
use Rattle.fst_type_syntax.specs.Views.{labelled}
use Rattle.fst_reading.proofs.Loops.{with_front}
use Rattle.fst_type_syntax.proofs.types.+reader.Given as goal

abbrev pub decreases-seq : goal.decreases-seq
decreases-seq l = 8 * l.left

abbrev pub decreases-type_ : goal.decreases-type_
decreases-type_ l = 8 * l.left

abbrev pub decreases-alt : goal.decreases-alt
decreases-alt l = 8 * l.left + 1

abbrev pub decreases-rec_body : goal.decreases-rec_body
decreases-rec_body l = 8 * l.left + 1

abbrev pub decreases-pair : goal.decreases-pair
decreases-pair l = 8 * l.left + 1

abbrev pub decreases-function : goal.decreases-function
decreases-function l = 8 * l.left + 1

abbrev pub decreases-paren : goal.decreases-paren
decreases-paren l = 8 * l.left + 2

abbrev pub decreases-arrow : goal.decreases-arrow
decreases-arrow l = 8 * l.left + 2

abbrev pub decreases-begun : goal.decreases-begun
decreases-begun l = 8 * l.left + 4

abbrev pub decreases-atom : goal.decreases-atom
decreases-atom l = 8 * l.left + 5

abbrev pub decreases-chain : goal.decreases-chain
decreases-chain l = 8 * l.left + 6

abbrev pub decreases-seq_inside : goal.decreases-seq_inside
decreases-seq_inside l = 8 * l.left + 7

abbrev pub decreases-alts : goal.decreases-alts
decreases-alts l = 8 * l.left + 2

abbrev pub decreases-choice : goal.decreases-choice
decreases-choice l = 8 * l.left + 3

abbrev pub invariant-alts-loop : goal.invariant-alts-loop
invariant-alts-loop l =
    let comma = spells (codes ",") in
    let alt = alt_with (seq_at l.left) (type_at l.left) in
    (with_front (map labelled l.branches.items) (sep_by_within comma alt (l.end - l.counter) l.rest) ≡ sep_by_within comma alt
    (length l.tokens) l.tokens) × (l.end ≡ length l.tokens)
