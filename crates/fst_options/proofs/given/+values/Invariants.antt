use Rattle.std.proofs.Common.{length}
use Rattle.fst_options.proofs.given.+values.Given as goal

abbrev pub decreases-values : goal.decreases-values
decreases-values l = length l.words.now
