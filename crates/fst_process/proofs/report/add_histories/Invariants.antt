use Rattle.std.proofs.Common.{◌≡◌, ◌+◌, ◌++◌, length}
use Rattle.std.specs.Vec.Iter.{into_iter_items}
use Rattle.fst_process.specs.Listed.{histories_of}
use Rattle.fst_process.proofs.report.add_histories.Given as goal

abbrev pub invariant-loop-channel : goal.invariant-loop-channel
invariant-loop-channel l = record {
  many : l.count + length (into_iter_items l.channel-iterator) ≡ length l.fn.made.items;
  listed : l.all.items ++ histories_of l.maker l.count
      (into_iter_items l.channel-iterator) ≡ l.fn.all.items ++ histories_of l.maker 0 l.fn.made.items;
}
