-- What other crates use of norms, of steps that lower them, and of pruned words.
use Rattle.std.proofs.Common.{◌≡◌, ℕ, List, Bool}
use Rattle.std.specs.Prelude.{option_map}
use Rattle.fst_words.specs.Words.{Productions, after}
use Rattle.fst_words.specs.Marks.{IsUnnormedSet}
use Rattle.fst_norms.specs.Pruned.{pruned_word}
use Rattle.fst_norms.proofs.PruneLaws as prune_laws
-- the numbers of a pruned word are among those of the word
pub use Rattle.fst_norms.proofs.PruneLaws.{pruned_in_range}
-- no trace empties a word with a member of an unnormed set
pub use Rattle.fst_norms.proofs.PruneLaws.{never_empties}
-- one trace after another
pub use Rattle.fst_norms.proofs.NormLaws.{after_both}
-- what follows a word stays behind what the word becomes
pub use Rattle.fst_norms.proofs.NormLaws.{after-append}
-- a word moves by a rule of its first non-terminal
pub use Rattle.fst_norms.proofs.NormLaws.{after_rule}
-- among rules in order, a letter that a later rule has is greater
pub use Rattle.fst_norms.proofs.NormLaws.{rule_of-above}
-- a word whose letters have bounds is emptied by a trace as long as the sum of the bounds
pub use Rattle.fst_norms.proofs.NormLaws.{sound_word}
-- the norm of two words is the sum of their norms
pub use Rattle.fst_norms.proofs.NormLaws.{total-append}
-- a non-terminal has one norm
pub use Rattle.fst_norms.proofs.NormedLaws.{least_of}
-- in a normed grammar, the norm of each non-terminal is there and below 2^63
pub use Rattle.fst_norms.proofs.NormedLaws.{norm_there}
-- of words that perform different traces
pub use Rattle.fst_norms.proofs.DifferenceLaws.{third, differ_back, same_or_differ, same_from, after_trace, one_alone}
-- the last item of a stack is the first of its word
pub use Rattle.fst_norms.proofs.LoweringLaws.{popped}

-- a pruned word is pruned to itself
pub pruned-pruned : (m : List Bool) (w : List ℕ) → pruned_word m (pruned_word m w) ≡ pruned_word m w
pruned-pruned = prune_laws.pruned-pruned

-- after each trace, words that are pruned to one word have become words that are pruned to one
pub after_pruned_same : (g : Productions) (m : List Bool) → IsUnnormedSet g m →
    (u v s : List ℕ) → pruned_word m u ≡ pruned_word m v →
    option_map (pruned_word m) (after g u s) ≡ option_map (pruned_word m) (after g v s)
after_pruned_same = prune_laws.after_pruned_same
