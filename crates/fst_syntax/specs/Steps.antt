-- What the proof of a reader of the code opens, under one name, where that is much.
use Rattle.fst_reading.specs.Steps.{all}
use Rattle.fst_module_grammar.specs.TermReading.{inside, plain_with, head_with, atom_with, pair_with, paren_with, chain, compare_with, cmp_with, app_with, unary_with, in_with, if_with, expr_with, then_with, arms_with, choice_with}
use Rattle.fst_module_grammar.specs.DeclReading.{equation_at, decl_at, decl_whole}

unfoldable pub head : Unit {0}
unfolding all plain_with head_with
head = tt

unfoldable pub atom : Unit {0}
unfolding all atom_with inside
atom = tt

unfoldable pub paren : Unit {0}
unfolding all pair_with paren_with
paren = tt

unfoldable pub chains : Unit {0}
unfolding all chain
chains = tt

unfoldable pub compared : Unit {0}
unfolding all compare_with cmp_with inside
compared = tt

unfoldable pub unary : Unit {0}
unfolding all plain_with head_with app_with unary_with inside
unary = tt

unfoldable pub app : Unit {0}
unfolding all
app = tt

unfoldable pub let_in : Unit {0}
unfolding all in_with
let_in = tt

unfoldable pub if_else : Unit {0}
unfolding all if_with
if_else = tt

unfoldable pub expr : Unit {0}
unfolding all expr_with inside
expr = tt

unfoldable pub then_ : Unit {0}
unfolding all then_with
then_ = tt

unfoldable pub choices : Unit {0}
unfolding all arms_with choice_with
choices = tt

unfoldable pub equation : Unit {0}
unfolding all equation_at
equation = tt

unfoldable pub decl : Unit {0}
unfolding all decl_at
decl = tt

unfoldable pub whole_decl : Unit {0}
unfolding all decl_whole
whole_decl = tt
