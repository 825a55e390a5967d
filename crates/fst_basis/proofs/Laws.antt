-- What other crates cite of chains and pairs.
-- there are as many chains as rules
pub use Rattle.fst_basis.proofs.ChainLaws.{as_many}
-- two words are a pair exactly where their first rows have the same letters
pub use Rattle.fst_basis.proofs.LetterLaws.{pair_told}
-- a basis of one pair more, with its chains
pub use Rattle.fst_basis.proofs.ChainLaws.{all_joined_push}
-- the rule at a place is the one that its letter finds
pub use Rattle.fst_basis.proofs.LetterLaws.{rule_there}
-- rules with the same letters have them at the same places, and are as many
pub use Rattle.fst_basis.proofs.LetterLaws.{letters_at, as_long}
-- one chain behind another, and a chain of one more rewrite
pub use Rattle.fst_basis.proofs.WayLaws.{chained-append, chained_first, chained_last, reverse-push}
-- a pair is exchanged, and back
pub use Rattle.fst_basis.proofs.WayLaws.{forth, back}
-- the pairs of a basis, and chains by them, are those of one that has more
pub use Rattle.fst_basis.proofs.WayLaws.{get_more, chained_more}
-- exchanges stay exchanges with one more, turned round, and one list behind another
pub use Rattle.fst_basis.proofs.WayLaws.{exchanges_on, exchanges_push, reversed_exchanges}
-- words that a proof joins perform the same traces
pub use Rattle.fst_basis.proofs.Joining.{proof_same}
