use Rattle.std.proofs.Common.{[], refl}
use Rattle.fst_type_syntax.specs.Views.{question_tree}
use Rattle.fst_names.proofs.QuestionLaws.{types_noted}
use Rattle.fst_names.proofs.question.note_types.Goals as goal

pub returns : goal.returns
returns c =
    types_noted (question_tree c.args.q.now) c.args.vars c.args.types c.args.least.now c.note_type.new.least
    c.note_type-2.new.least c.requires.variables c.requires.types
    (c.in_ok-note_type.ensures [] refl) (c.in_ok-note_type-2.ensures [] refl)
