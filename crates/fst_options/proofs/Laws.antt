-- What other crates cite of the words of commands.
-- Words are those of at most one command.
pub use Rattle.fst_options.proofs.WordLaws.{one_command}
-- The values of a command are in their ranges.
pub use Rattle.fst_options.proofs.WordLaws.{within}
