-- What other crates cite of the question of two types.
-- the problem of two types is determined: its grammar, words and marks
pub use Rattle.fst_equiv.proofs.ProblemLaws.{AreSame, one_problem, same_marks}
-- types whose words perform the same traces agree at every depth
pub use Rattle.fst_equiv.proofs.VerdictLaws.{Stand, stand_pruned, types_agree}
