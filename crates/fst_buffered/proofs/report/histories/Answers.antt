use Rattle.std.proofs.Common.{◌<◌, ◌++◌, length, map, sym, subst, arith}
use Rattle.std.specs.List.{AllByRecursion}
use Rattle.fst_paths.proofs.Laws.{few_each}
use Rattle.fst_process.specs.Listed.{channels_in, shown}
use Rattle.fst_buffered.specs.Channels.{unread_of}
use Rattle.fst_buffered.specs.KeptOf.{channel_of, plain_of}
use Rattle.fst_buffered.proofs.report.histories.Goals as goal

pub loop-maker-init : goal.loop-maker-init
loop-maker-init c =
    let gives = c.into_iter-maker-iterator.ensures.into_iter_gives in
    let is = gives.0 in
    record {
      few = subst (AllByRecursion (λ e. length e.1.items < 4294967296)) (sym is)
          (few_each 4294967296 c.args.channels.entries (omega arith) gives.5 c.requires);
      histories = λ i. map shown (c.new-all.ensures.items i) ++ channels_in plain_of (is i);
      numbers = λ i. c.new-numbers.ensures.items i ++ map unread_of (channels_in channel_of (is i));
    }
