use Rattle.std.proofs.Common.{length, ◌≡◌, ◌∙◌, ◌+◌, drop, sym, ap, arith}
use Rattle.std.proofs.lemmas.List.{at_drop_all}
use Rattle.std.proofs.lemmas.List.Sums.{sum_by-drop_more}
use Rattle.fst_cell.specs.declared.answers.Closed.{Closed}
use Rattle.fst_worker.specs.Finishing.{entries_of}
use Rattle.fst_worker.proofs.Counted.{counted_more, counted_no_more, all_counted}
use Rattle.fst_worker.proofs.finishing.count_entries.Goals as goal
use Rattle.fst_worker.proofs.finishing.count_entries.Goals.{then-count-steps, else-count-steps}

pub loop-channel-init : goal.loop-channel-init
loop-channel-init c = λ n h. record {
  all = λ l. let a = h.all l in omega (arith, a);
  more =
      λ l. let m = h.more l in omega (arith, m);
}

pub loop-channel-preserved : goal.loop-channel-preserved
loop-channel-preserved c = λ m h.
    let cs = c.args.closed.now in
    let i = c.loop-channel.channel-index in
    let n = m + entries_of cs in
    let left = entries_of (drop i cs) in
    let rest = entries_of (drop (i + 1) cs) in
    let d = c.channel-item.result in
    let f = λ (c : Closed). length c.history.entries.items in
    let is : left ≡ f d + rest = sum_by-drop_more f cs i d c.loop-channel-test.true ∙ ap
    (λ n. n + rest) (sym (ap f c.channel-item.is)) in
    elim c.if-count-steps.branch [
      | then-count-steps w ↦ counted_more c.args.steps n left rest (f d) c.loop-channel.count c.if-count-steps.count
          (c.loop-channel.invariant m h) is w.if-count-steps.true
          (omega (arith, w.count-is, w.len.ensures, d.history.entries.ok.0))
      | else-count-steps w ↦ counted_no_more c.args.steps n left rest c.loop-channel.count c.if-count-steps.count
          (c.loop-channel.invariant m h) w.if-count-steps.false w.count-is
    ]

pub returns : goal.returns
returns c = λ n h.
    all_counted c.args.steps (n + entries_of c.args.closed.now)
    (entries_of (drop c.loop-channel.channel-index c.args.closed.now)) c.loop-channel.count
    (at_drop_all entries_of c.args.closed.now c.loop-channel.channel-index (omega (arith, c.loop-channel-test.false)))
    (c.loop-channel.invariant n h)
