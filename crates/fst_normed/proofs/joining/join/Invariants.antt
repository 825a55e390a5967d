use Rattle.std.proofs.Common.{◌≡◌, ◌+◌, length, reverse}
use Rattle.fst_norms.specs.Bounds.{total}
use Rattle.fst_normed.specs.Candidates.{IsThere}
use Rattle.fst_normed.specs.Closing.{AreNoted}
use Rattle.fst_normed.specs.Joining.{exchanges}
use Rattle.fst_normed.specs.Walks.{IsUnderwayIn, rewrites_in}
use Rattle.fst_normed.proofs.joining.join.Given as goal

abbrev pub invariant-loop-n : goal.invariant-loop-n
invariant-loop-n l = record {
  underway : IsUnderwayIn l.norms l.words l.needed l.left l.right l.walk;
  noted : AreNoted (length l.words) l.norms l.initial.needed l.needed (IsThere (exchanges l.norms l.words l.left l.right));
  spent : rewrites_in l.walk + l.rewrites ≡ l.initial.rewrites;
}

abbrev pub decreases-loop-n : goal.decreases-loop-n
decreases-loop-n l = total l.norms (reverse l.walk.left.items)
