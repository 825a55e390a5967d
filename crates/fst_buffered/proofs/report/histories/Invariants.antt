use Rattle.std.proofs.Common.{◌≡◌, ◌<◌, ◌++◌, length, map}
use Rattle.std.specs.List.{AllByRecursion}
use Rattle.fst_process.specs.Listed.{channels_in, shown}
use Rattle.fst_buffered.specs.Channels.{unread_of}
use Rattle.fst_buffered.specs.KeptOf.{channel_of, plain_of}
use Rattle.fst_buffered.proofs.report.histories.Given as goal

abbrev pub invariant-loop-maker : goal.invariant-loop-maker
invariant-loop-maker l = record {
  few : AllByRecursion (λ e. length e.1.items < 4294967296) l.maker-iterator;
  histories : map shown l.all.items ++ channels_in plain_of l.maker-iterator ≡ channels_in plain_of l.fn.channels.entries;
  numbers : l.numbers.items ++ map unread_of (channels_in channel_of l.maker-iterator)
      ≡ map unread_of (channels_in channel_of l.fn.channels.entries);
}
