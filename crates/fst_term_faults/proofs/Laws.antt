-- What other crates cite of terms, their variables and their faults.
-- a term or an arm is no higher than the highest
pub use Rattle.fst_term_faults.proofs.Heights.{terms_height_at, arms_height_at}
-- how many terms there are; and of the variables of an arm, that they can be left, and what is left then
pub use Rattle.fst_term_faults.proofs.TermLaws.{length_of, within_long, within_left}
-- where what is in scope is alike, a term has the same faults
pub use Rattle.fst_term_faults.proofs.AlikeLaws.{AreAlike, same_term_faults}
-- the faults of some things one after the other, and of two parts
pub use Rattle.fst_term_faults.proofs.NotedLaws.{next_noted, both_noted}
