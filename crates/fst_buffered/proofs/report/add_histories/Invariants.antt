use Rattle.std.proofs.Common.{◌≡◌, ◌+◌, ◌++◌, length, map}
use Rattle.std.specs.Vec.Iter.{into_iter_items}
use Rattle.fst_process.specs.Listed.{channels_of, shown}
use Rattle.fst_buffered.specs.Channels.{unread_of}
use Rattle.fst_buffered.specs.KeptOf.{channel_of, plain_of}
use Rattle.fst_buffered.proofs.report.add_histories.Given as goal

abbrev pub invariant-loop-channel : goal.invariant-loop-channel
invariant-loop-channel l = record {
  many : l.count + length (into_iter_items l.channel-iterator) ≡ length l.fn.made.items;
  histories : map shown l.all.items ++ channels_of plain_of l.maker l.count (into_iter_items l.channel-iterator)
      ≡ map shown l.fn.all.items ++ channels_of plain_of l.maker 0 l.fn.made.items;
  numbers : l.numbers.items ++ map unread_of (channels_of channel_of l.maker l.count (into_iter_items l.channel-iterator))
      ≡ l.fn.numbers.items ++ map unread_of (channels_of channel_of l.maker 0 l.fn.made.items);
}
