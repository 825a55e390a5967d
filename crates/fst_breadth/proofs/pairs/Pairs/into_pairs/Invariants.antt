use Rattle.std.proofs.Common.{◌≡◌, ◌++◌, length}
use Rattle.std.specs.Prelude.{map}
use Rattle.fst_shared.specs.Shared.{AreKeys}
use Rattle.fst_breadth.specs.Answer.{pair_of}
use Rattle.fst_breadth.specs.Tables.{key_pair}
use Rattle.fst_breadth.proofs.pairs.Pairs.into_pairs.Given as goal

abbrev pub invariant-loop-left : goal.invariant-loop-left
invariant-loop-left l = (l.pairs.items ++ map (key_pair l.words.value) l.left-iterator ≡ map pair_of l.fn.self.found) ×
    AreKeys (length l.words.value) l.left-iterator
