use Rattle.std.proofs.Common.{arith}
use Rattle.std.proofs.lemmas.Grind.{common_steps}
use Rattle.fst_term_faults.specs.CodeSurroundings.{surroundings_of}
use Rattle.fst_term_names.specs.CodeNumbers.{numbers_of}
use Rattle.fst_term_names.proofs.naming.maker_term.Goals as goal

pub unreachable-requires : goal.unreachable-requires
unfolding surroundings_of
unreachable-requires c = grind (arith, common_steps)

pub returns : goal.returns
unfolding numbers_of
returns c = grind (arith, common_steps)
