-- What the proof of a reader of the code opens, under one name, where that is much.
use Rattle.fst_reading.specs.Steps.{all}
use Rattle.fst_module_grammar.specs.TermReading.{inside, type_atom_with, split_with, let_with, lambda_with, case_arm_with, match_arm_with}

unfoldable pub types : Unit {0}
unfolding inside type_atom_with
types = tt

unfoldable pub apply : Unit {0}
unfolding all type_atom_with
apply = tt

unfoldable pub let_head : Unit {0}
unfolding all split_with let_with
let_head = tt

unfoldable pub lambda : Unit {0}
unfolding all lambda_with
lambda = tt

unfoldable pub arm_head : Unit {0}
unfolding all case_arm_with match_arm_with
arm_head = tt
