use Rattle.std.proofs.Common.{◌∙◌}
use Rattle.fst_premises.specs.Scenes.{check_in}
use Rattle.fst_typing.proofs.Unequal.{shows_shape, shows_word, shows_undecided, shows_large}
use Rattle.fst_typing.proofs.comparing.compared.Goals as goal

pub returns-in-Ok-Shape-clause-refused : goal.returns-in-Ok-Shape-clause-refused
returns-in-Ok-Shape-clause-refused c =
    λ m. shows_shape (check_in c.args.scene) c.args.at c.type_of.result.now c.args.wanted.now c.in-Ok-Shape.field-0
    c.type_of.ensures c.in-Ok-Shape.ensures.answer c.in-Ok-Shape.field-0-is
    (c.in_ok-parts-in-Ok-Shape.ensures.first ∙ c.type_of-in-Ok-Shape.ensures) c.in_ok-parts-in-Ok-Shape.ensures.second

pub returns-in-Ok-Word-clause-refused : goal.returns-in-Ok-Word-clause-refused
returns-in-Ok-Word-clause-refused c =
    λ m. shows_word (check_in c.args.scene) c.args.at c.type_of.result.now c.args.wanted.now c.in-Ok-Word.field-0
    c.type_of.ensures c.in-Ok-Word.ensures.answer c.in-Ok-Word.field-0-is
    (c.in_ok-parts-in-Ok-Word.ensures.first ∙ c.type_of-in-Ok-Word.ensures) c.in_ok-parts-in-Ok-Word.ensures.second

pub returns-in-Ok-Undecided-clause-refused : goal.returns-in-Ok-Undecided-clause-refused
returns-in-Ok-Undecided-clause-refused c =
    λ m. shows_undecided (check_in c.args.scene) c.args.at c.type_of.result.now c.args.wanted.now c.in-Ok-Undecided.field-0
    c.type_of.ensures c.in-Ok-Undecided.ensures.answer c.in-Ok-Undecided.field-0-is
    (c.in_ok-parts-in-Ok-Undecided.ensures.first ∙ c.type_of-in-Ok-Undecided.ensures) c.in_ok-parts-in-Ok-Undecided.ensures.second

pub returns-in-Err-TooLarge-clause-refused : goal.returns-in-Err-TooLarge-clause-refused
returns-in-Err-TooLarge-clause-refused c =
    λ m. shows_large (check_in c.args.scene) c.args.at c.type_of.result.now c.args.wanted.now c.type_of.ensures
    (c.in-Err-TooLarge.ensures.too_large c.in-Err-TooLarge.field-0-is)
