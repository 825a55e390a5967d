use Rattle.std.proofs.Common.{◌≡◌, ◌==◌, ◌∙◌, [], None, ap, length, sym, true}
use Rattle.fst_terms.specs.Naming.{place_of}
use Rattle.fst_term_faults.specs.CodeSurroundings.{surroundings_of}
use Rattle.fst_term_names.specs.CodeMeanings.{numbers_in}
use Rattle.fst_term_names.specs.CodeNumbers.{numbers_of}
use Rattle.fst_term_names.proofs.NamingLaws.{global_is, global_there}
use Rattle.fst_term_names.proofs.naming.name_term.Goals as goal
use Rattle.fst_term_names.proofs.naming.name_term.Goals.{then-is_empty+in_default, else-is_empty}

pub unreachable-requires : goal.unreachable-requires
unfolding surroundings_of
unreachable-requires c =
    global_there c.args.locals.now c.args.meanings.now.around.now.globals.now c.args.at c.args.name.now c.args.written.now
    c.requires.name
    (elim c.if-is_empty.branch as (λ _. c.args.written.now ≡ [] → place_of c.args.locals.now c.args.name.now ≡ None) [
      | then-is_empty+in_default w ↦ λ _. sym w.number_of.ensures.number ∙ w.in_default.is
      | else-is_empty w ↦ λ e. let is : (length c.args.written.now == 0) ≡ true = ap (λ ws. length ws == 0) e in
          absurd (cc (is, w.if-is_empty.ensures))
    ])
    (sym c.number_of-2.ensures.number ∙ c.in-None.is)

pub returns-clause-term : goal.returns-clause-term
unfolding numbers_of
returns-clause-term c =
    global_is (numbers_in c.args.meanings.now) (length c.args.types.now.types.items) c.args.at c.args.name.now c.args.written.now
    (place_of c.args.locals.now c.args.name.now) c.in-Some-number_of.k
    c.in_ok-number_of-in-Some-number_of.field-0 c.in_ok-arguments.arguments.items
    (elim c.if-is_empty.branch as (λ _. c.args.written.now ≡ [] → place_of c.args.locals.now c.args.name.now ≡ None) [
      | then-is_empty+in_default w ↦ λ _. sym w.number_of.ensures.number ∙ w.in_default.is
      | else-is_empty w ↦ λ e. let is : (length c.args.written.now == 0) ≡ true = ap (λ ws. length ws == 0) e in
          absurd (cc (is, w.if-is_empty.ensures))
    ])
    (sym c.number_of-2.ensures.number ∙ c.in-Some-number_of.is) c.in_ok-number_of-in-Some-number_of.ensures
    c.in_ok-arguments.ensures.numbers
