use Rattle.std.proofs.Common.{◌++◌, [], sym, ap, ◌∙◌, arith}
use Rattle.std.specs.String.{string_bytes}
use Rattle.std.proofs.lemmas.List.{drop_all, append-nil}
use Rattle.fst_merge.specs.EventTexts.{lines_behind}
use Rattle.fst_merge.proofs.Lines.{may_count, line_more, passed}
use Rattle.fst_merge.proofs.texts.events_text.Goals as goal

pub push_line-requires : goal.push_line-requires
push_line-requires c = record {
  few = may_count c.args.events.now c.loop-event.event-index c.loop-event.made c.loop-event-test.true (omega arith)
      c.loop-event.invariant.counts;
}

pub loop-event-preserved : goal.loop-event-preserved
loop-event-preserved c =
    let es = c.args.events.now in
    let more = line_more es c.loop-event.event-index c.event-item.result c.loop-event.made c.push_line.new.made
    (string_bytes c.loop-event.text) (string_bytes c.push_line.new.text) (lines_behind [] es) c.loop-event-test.true
    c.event-item.is c.in_ok-push_line.ensures c.loop-event.invariant.counts c.loop-event.invariant.text in
    record { text = more.0; counts = more.1 }

pub returns : goal.returns
returns c =
    let es = c.args.events.now in
    let i = c.loop-event.event-index in
    sym (append-nil (string_bytes c.loop-event.text))
    ∙ ap (λ r. string_bytes c.loop-event.text ++ lines_behind (passed es i) r) (sym (drop_all i es c.loop-event-test.false))
    ∙ c.loop-event.invariant.text
