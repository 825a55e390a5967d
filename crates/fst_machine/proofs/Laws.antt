-- What other crates cite of the code of a program.
-- A step keeps what the code stands for.
pub use Rattle.fst_machine.proofs.CodeLaws.{inner_stands}
-- Where no step is left, the code asks for what the terms ask for.
pub use Rattle.fst_machine.proofs.CodeLaws.{asks_alike}
-- The code that a fork starts stands for the task that it makes, and its variables have the same values.
pub use Rattle.fst_machine.proofs.CodeLaws.{child_stands}
-- Where the task has ended, the only value on the stack means the task's value.
pub use Rattle.fst_machine.proofs.CodeLaws.{ended_means}
-- Each step lowers the measure, where the code goes down.
pub use Rattle.fst_machine.proofs.CodeLaws.{inner_lowers}
-- The code of a module, from its greatest place, stands for main's body.
pub use Rattle.fst_machine.proofs.Started.{main_stands}
-- After an answer the code of a module stands for what the terms go on with.
pub use Rattle.fst_machine.proofs.Started.{told_on}
-- No two constructors of a module have the same name.
pub use Rattle.fst_machine.proofs.Started.{makers_apart}
-- A term that is in range under no binder has no variable free.
pub use Rattle.fst_machine.proofs.Conditions.{closed_in_range}
-- Constructors whose names differ have no name twice.
pub use Rattle.fst_machine.proofs.Conditions.{distinct_makers}
-- A variable is itself, and nothing else.
pub use Rattle.fst_machine.proofs.Slots.{is_itself, is_same}
-- Outside some binders a variable has a number less by theirs.
pub use Rattle.fst_machine.proofs.Moves.{outside_all_at}
-- What asks for a fork has a state for the task that it makes.
pub use Rattle.fst_machine.proofs.Children.{forks_child}
-- States, told apart by their codes.
pub use Rattle.fst_machine.proofs.StateCode.{state_code}
