use Rattle.std.proofs.Common.{◌∙◌, ap, map, subst, sym}
use Rattle.fst_grammar.specs.Equations.{HasRanks, HasOrderedRows}
use Rattle.fst_grammar.specs.Views.{equation_of}
use Rattle.fst_grammar.proofs.translation.rules_of.Goals as goal

pub rows_of-requires-clause-grounded : goal.rows_of-requires-clause-grounded
rows_of-requires-clause-grounded c = subst HasRanks
    (sym (ap (map equation_of) c.deref.ensures.value ∙ c.in_ok-equations.ensures.equations)) c.requires.grounded

pub rows_of-requires-clause-ordered : goal.rows_of-requires-clause-ordered
rows_of-requires-clause-ordered c = subst HasOrderedRows
    (sym (ap (map equation_of) c.deref.ensures.value ∙ c.in_ok-equations.ensures.equations)) c.requires.ordered
