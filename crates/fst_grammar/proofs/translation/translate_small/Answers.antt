use Rattle.std.proofs.Common.{◌∙◌, refl, ap, map}
use Rattle.fst_parts.specs.Place.{top_of}
use Rattle.fst_parts.specs.Views.{part_of}
use Rattle.fst_grammar.specs.Translation.{IsTooLarge}
use Rattle.fst_grammar.specs.Word.{word}
use Rattle.fst_grammar.specs.Views.{numbers_in, equations_in}
use Rattle.fst_grammar.proofs.DoneLaws.{is_grounded, is_ordered, is_too_large, is_done, fault_stays}
use Rattle.fst_grammar.proofs.translation.translate_small.Goals as goal

pub rules_and_words-requires-clause-grounded : goal.rules_and_words-requires-clause-grounded
rules_and_words-requires-clause-grounded c =
    is_grounded c.args.s.now c.args.r.now c.requires.session_left c.requires.session_right c.requires.few_left
    c.requires.few_right c.in_ok-table.table.letters.items (map part_of c.in_ok-table.table.parts.found.items)
    (equations_in c.in_ok-table.table)
    c.in_ok-table.ensures.letters c.in_ok-table.ensures.parts refl

pub rules_and_words-requires-clause-ordered : goal.rules_and_words-requires-clause-ordered
rules_and_words-requires-clause-ordered c =
    is_ordered c.args.s.now c.args.r.now c.requires.session_left c.requires.session_right c.requires.few_left c.requires.few_right
    c.in_ok-table.table.letters.items (map part_of c.in_ok-table.table.parts.found.items) (equations_in c.in_ok-table.table)
    c.in_ok-table.ensures.letters c.in_ok-table.ensures.parts refl

pub returns-in_err-rules-clause-too_large : goal.returns-in_err-rules-clause-too_large
returns-in_err-rules-clause-too_large c =
    let large = is_too_large c.args.s.now c.args.r.now c.requires.session_left c.requires.session_right c.requires.few_left
    c.requires.few_right c.in_ok-table.table.letters.items (map part_of c.in_ok-table.table.parts.found.items)
    (equations_in c.in_ok-table.table)
    c.in_ok-table.ensures.letters c.in_ok-table.ensures.parts refl in
    fault_stays c.from_residual-in_err-rules.result c.in_err-rules.field-0.0
    (IsTooLarge c.args.s.now c.args.r.now) c.from_residual-in_err-rules.ensures.1
    (λ is. large (λ rows s. c.in_err-rules.ensures.too_large rows s is))

pub returns-clause-done : goal.returns-clause-done
returns-clause-done c =
    rw c.into_letters-letters.ensures
    (is_done c.args.s.now c.args.r.now c.requires.session_left c.requires.session_right c.requires.few_left c.requires.few_right
    c.in_ok-table.table.letters.items (map part_of c.in_ok-table.table.parts.found.items) (equations_in c.in_ok-table.table)
    c.in_ok-table.ensures.letters c.in_ok-table.ensures.parts refl
    c.in_ok-rules.rules.items c.in_ok-rules.left c.in_ok-rules.right c.in_ok-rules.ensures.rules
    (c.in_ok-rules.ensures.left ∙ ap (λ t. word (numbers_in c.in_ok-table.table) (top_of t) t) c.in_ok-table.ensures.left)
    (c.in_ok-rules.ensures.right ∙ ap (λ t. word (numbers_in c.in_ok-table.table) (top_of t) t) c.in_ok-table.ensures.right))
